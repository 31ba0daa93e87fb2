-- The end of a line, and the end of the input.
-- Assumes nothing.
use mathlib.Core.Path.{◌≡◌, refl, sym, ap, ◌∙◌}
use mathlib.Core.Bool.{Bool, true, false, cond, ◌||◌}
use mathlib.Core.List.{List, [], ◌∷◌, ◌++◌, append-nil}
use Prim.Native.Nat.{ℕ, ◌≤◌}
use lib.ListN.{length}
use Rattle.buffers.proofs.Tests.{either-false}
use Rattle.lines.specs.Grammar.{command_of, no_bytes, line_bytes}
use Rattle.lines.specs.Programs.{Run, stepped_by, text_by, runs, text_for, last_of, Stands}
use Rattle.lines.specs.Replies.{TextAt}
use Rattle.lines.specs.Shape.{lacked_by}
use Rattle.lines.proofs.Programs.{line_stands, last-lacked}
use Rattle.catalogues.specs.declared.collecting.Collection.{Collection}
use Rattle.catalogues.specs.declared.entries.Effect.{Effect}
use Rattle.catalogues.specs.Entries.{rows_held, effect_of, added_to, is_refusal_lem, effect_text}
use Rattle.catalogues.specs.Runs.{Catalogue, line_after_lem, next_of, text_of, table_from, table_unless, cataloguing, run_held, Fit}
use Rattle.catalogues.proofs.Entering.{effect-good, proper-added, quiet}

module _ (c : Collection) (ns ws : List ℕ) where
  abbrev run : Run Catalogue
  run = run_held c ns ws

  abbrev rows : List (ℕ × ℕ)
  rows = rows_held c.count ns ws

  abbrev effect : Effect
  effect = effect_of rows (command_of (line_bytes c.line))

  module _ (d : Collection) (ns' ws' : List ℕ) (e : Effect) (is : e ≡ effect) (r : rows_held d.count ns' ws' ≡ added_to rows e) where
    pub line_fits : Fit c ns ws → d.count ≤ 32768 → length ns' ≡ length ns → length ws' ≡ length ws → Fit d ns' ws'
    line_fits f few n m =
        record {
          few = few;
          numbers = n ∙ f.numbers;
          words = m ∙ f.words;
          proper = rw r (proper-added rows e (rw is (effect-good rows (command_of (line_bytes c.line)))) f.proper);
        }

    pub line_ended : (at next : ℕ) (out out' : List ℕ) → d.lines ≡ line_after_lem c.lines → TextAt at (effect_text d.lines e) out out' next
        → d.refused ≡ (c.refused || is_refusal_lem e) → line_bytes d.line ≡ []
        → Stands cataloguing run (10 ∷ []) at out out' (run_held d ns' ws') next
    unfolding cataloguing run_held next_of text_of
    line_ended at next out out' l w t b =
        line_stands cataloguing run _ at next out out'
        (λ i.
        record {
          rows = (r ∙ ap (added_to rows) is) i;
          lines = l i;
          refused = (t ∙ ap (λ (x : Effect). c.refused || is_refusal_lem x) is) i;
        })
        b
        (rw (← l, ← is) w)

  abbrev lacked : List ℕ
  lacked = lacked_by (line_bytes c.line)

  -- no text without a refusal
  lacked-quiet : (runs cataloguing run lacked).state.refused ≡ false → text_for cataloguing run lacked ≡ []
  unfolding lacked_by runs text_for stepped_by text_by cataloguing run_held next_of text_of
  lacked-quiet = go (no_bytes (line_bytes c.line))
    where
      go : (t : Bool) → (runs cataloguing run (cond t [] (10 ∷ []))).state.refused ≡ false
          → text_for cataloguing run (cond t [] (10 ∷ [])) ≡ []
      go true h = refl
      go false h = append-nil _ ∙ quiet (line_after_lem c.lines) effect (either-false c.refused (is_refusal_lem effect) h).1

  module _ (out mid : List ℕ) (all : Collection) (ns' ws' : List ℕ) (at : ℕ)
      (s : Stands cataloguing run lacked 0 out mid (run_held all ns' ws') at) where
    last-is : last_of cataloguing run ≡ text_for cataloguing run lacked ++ table_unless (run_held all ns' ws').state
    unfolding cataloguing run_held
    last-is =
        last-lacked cataloguing run ∙ ap (λ (q : Run Catalogue). text_for cataloguing run lacked ++ table_unless q.state) (sym s.run)

    pub last-refused : all.refused ≡ true → TextAt 0 (last_of cataloguing run) out mid at
    unfolding table_unless run_held
    last-refused h = rw (last-is, h, append-nil (text_for cataloguing run lacked)) s.text

    pub last-table : (after : List ℕ) (n : ℕ) → all.refused ≡ false → TextAt 0 (table_from (rows_held all.count ns' ws')) mid after n
        → TextAt 0 (last_of cataloguing run) out after n
    unfolding table_unless run_held
    last-table after n h w =
        let none : text_for cataloguing run lacked ≡ [] = lacked-quiet (ap (λ (q : Run Catalogue). q.state.refused) (sym s.run) ∙ h) in
        let same : mid ≡ out = s.text.buffer ∙ rw none in
        rw (last-is, h, none, ← same) w
