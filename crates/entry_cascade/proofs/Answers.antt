-- What the cascade answers, by where it stops.
use mathlib.Core.Path.{◌≡◌, refl, sym, ap, ◌∙◌}
use mathlib.Core.Bool.{true, false, not}
use mathlib.Core.List.{List, [], ◌∷◌, ◌++◌, append-nil}
use Prim.Native.Nat.{ℕ, suc, ◌+◌, ◌-◌, ◌*◌, ◌≤◌, ◌<◌}
use native.Mathlib.Nat.{suc-mul, mul-le-mul_right}
use native.Mathlib.Decide.{dec_lt}
use native.Mathlib.Omega.{arith}
use lib.ListN.{length, get_or, length-map, length-append}
use Rattle.hashing.specs.declared.Parameters.{Parameters}
use Rattle.hashing.specs.declared.Growth.{Growth}
use Rattle.hashing.specs.Limits.{valid_parameters}
use Rattle.hashing.proofs.Bounds.{limits}
use Rattle.pages.specs.Position.{valid_number}
use Rattle.placement.specs.Rule.{Star, Contents, separators}
use Rattle.placement.specs.File.{File, column, written, replaced}
use Rattle.placement.specs.Shape.{Sized}
use Rattle.placement.specs.Hash.{sound_at, named_page_lem, hash_of}
use Rattle.placement.proofs.Mapping.{mapped}
use Rattle.reach.specs.Reach.{is_empty, pages_to, first_unsound_lem}
use Rattle.reach.specs.Cascade.{cascaded, carried_past}
use Rattle.page_separator.proofs.Cutting.{separator_fits}
use Rattle.page_separator.specs.Probes.{words_separator_from}
use Rattle.page_plan.specs.Sources.{renamed}
use Rattle.page_plan.proofs.Applying.{applied, applied-is}
use Rattle.entry_reach.specs.declared.blocks.Reach.TheVariants.{Ends}
use Rattle.entry_reach.specs.Entry.{Unheld, new_star_lem}
use Rattle.entry_reach.proofs.Firsts.{such-is}
use Rattle.entry_reach.specs.Pushing.{page_words, lowered_to, lowered_on, Pushed}
use Rattle.entry_cascade.specs.Cascade.{visited, overflow, stop_of, cascade_unsound, Stopped, Spilled, CascadeKept, Plans}
use Rattle.entry_reach.proofs.Visiting.{cascaded-none, carried_none, cascaded-add, carried-add, visits_some}
use Rattle.entry_reach.proofs.Tying.{parted}
use Rattle.entry_reach.proofs.Pushed.{pushed-next, carried-length}

not_empty : (l : List Star) → 0 < length l → is_empty l ≡ false
not_empty [] h = absurd (omega arith)
not_empty (s ∷ l) h = refl

length-nil : (l : List Star) → length l ≡ 0 → l ≡ []
length-nil [] e = refl
length-nil (s ∷ l) e = absurd (omega arith)

module _ (p : Parameters) (g : Growth) (f : File) (k page : ℕ) (pool planned w : List ℕ) (d : ℕ) (P : Pushed p g f k page pool planned w d) where
  abbrev new : ℕ → ℕ → Star
  new word owner = new_star_lem k word owner

  rest : p.pages - page ≡ d + (p.pages - (page + d))
  rest = omega (arith, P.most)

  whole : (word owner : ℕ) → visited p g f (new word owner) page
      ≡ cascaded (hash_of p g) f page d (new word owner ∷ []) ++ cascaded (hash_of p g) f (page + d) (p.pages - (page + d)) (carried_past (hash_of p g) f page d (new word owner ∷ []))
  whole word owner =
      ap (λ (n : ℕ). cascaded (hash_of p g) f page n (new word owner ∷ [])) rest
      ∙ cascaded-add (hash_of p g) f page d (p.pages - (page + d)) (new word owner ∷ [])

  past : (word owner : ℕ) → overflow p g f (new word owner) page
      ≡ carried_past (hash_of p g) f (page + d) (p.pages - (page + d)) (carried_past (hash_of p g) f page d (new word owner ∷ []))
  past word owner =
      ap (λ (n : ℕ). carried_past (hash_of p g) f page n (new word owner ∷ [])) rest
      ∙ carried-add (hash_of p g) f page d (p.pages - (page + d)) (new word owner ∷ [])

  -- d pages are planned
  planned-length : (word owner : ℕ) → length (cascaded (hash_of p g) f page d (new word owner ∷ [])) ≡ d
  planned-length word owner =
      ap length (sym (P.are word owner)) ∙ length-map P.contents (mapped (renamed f.words f.owners word owner)) ∙ P.size

  -- as many stars are carried as words
  carried-count : (word owner : ℕ) → length (carried_past (hash_of p g) f page d (new word owner ∷ [])) ≡ length w
  carried-count word owner = ap length (sym (P.carried word owner)) ∙ carried-length (renamed f.words f.owners word owner) w

  -- the page that follows is unsound
  module _ (some : 0 < length w) (inside : page + d < p.pages) (bad : sound_at p g f (page + d) ≡ false) (word owner : ℕ) where
    reaches : page + d < stop_of p g f (new word owner) page
    reaches =
        omega (
          arith,
          ap length (whole word owner),
          length-append (cascaded (hash_of p g) f page d (new word owner ∷ [])) (cascaded (hash_of p g) f (page + d) (p.pages - (page + d)) (carried_past (hash_of p g) f page d (new word owner ∷ []))),
          planned-length word owner,
          visits_some (hash_of p g) f (page + d) (p.pages - (page + d)) (carried_past (hash_of p g) f page d (new word owner ∷ [])) (omega (arith, carried-count word owner)) (omega arith),
        )

    found : page + d ≡ cascade_unsound p g f (new word owner) page
    unfolding first_unsound_lem
    found =
        such-is (λ (q : ℕ). not (sound_at p g f q)) page (length (visited p g f (new word owner) page)) (page + d)
        (record {
          low = omega arith;
          high = omega (arith, reaches);
          before = λ q a b. ap not (P.sound q a b);
          passes = λ h. ap not bad;
        })

    stopped : Stopped p g f (new word owner) page (page + d)
    stopped = record { is = found; inside = reaches }

  -- the pages visited are those planned
  module _ (word owner : ℕ) (all : visited p g f (new word owner) page ≡ cascaded (hash_of p g) f page d (new word owner ∷ [])) where
    stop_is : stop_of p g f (new word owner) page ≡ page + d
    stop_is = ap (λ (n : ℕ). page + n) (ap length all ∙ planned-length word owner)

    none-unsound : cascade_unsound p g f (new word owner) page ≡ page + d
    unfolding first_unsound_lem
    none-unsound =
        ap (first_unsound_lem p g f page) (ap length all ∙ planned-length word owner)
        ∙ sym
        (such-is (λ (q : ℕ). not (sound_at p g f q)) page d (page + d)
        (record {
          low = omega arith;
          high = omega arith;
          before = λ q a b. ap not (P.sound q a b);
          passes = λ h. absurd (omega arith);
        }))

    all_sound : cascade_unsound p g f (new word owner) page ≡ stop_of p g f (new word owner) page
    all_sound = none-unsound ∙ sym stop_is

  -- nothing is carried on
  module _ (none : length w ≡ 0) (word owner : ℕ) where
    nothing : carried_past (hash_of p g) f page d (new word owner ∷ []) ≡ []
    nothing = length-nil (carried_past (hash_of p g) f page d (new word owner ∷ [])) (carried-count word owner ∙ none)

    all-visited : visited p g f (new word owner) page ≡ cascaded (hash_of p g) f page d (new word owner ∷ [])
    all-visited =
        whole word owner
        ∙ ap (λ (l : List Star). cascaded (hash_of p g) f page d (new word owner ∷ []) ++ cascaded (hash_of p g) f (page + d) (p.pages - (page + d)) l) nothing
        ∙ ap (λ (cs : List Contents). cascaded (hash_of p g) f page d (new word owner ∷ []) ++ cs) (cascaded-none (hash_of p g) f (page + d) (p.pages - (page + d)))
        ∙ append-nil (cascaded (hash_of p g) f page d (new word owner ∷ []))

    fits : overflow p g f (new word owner) page ≡ []
    fits =
        past word owner
        ∙ ap (carried_past (hash_of p g) f (page + d) (p.pages - (page + d))) nothing
        ∙ carried_none (hash_of p g) f (page + d) (p.pages - (page + d))

    kept : (last : ℕ) → pages_to page last ≡ d → CascadeKept p g f k word owner page pool planned last
    kept last count =
        record {
          sound = all_sound word owner all-visited;
          none = fits;
          within = ap (λ (n : ℕ). carried_past (hash_of p g) f page n (new word owner ∷ [])) count ∙ nothing;
          applies =
              ap (λ (n : ℕ). applied p.places page n k word owner pool planned f) count
              ∙ applied-is p.places page d k word owner pool planned f P.contents P.sources P.separators_are P.all_sourced
              ∙ ap (replaced p.places f page) (P.are word owner ∙ sym all-visited);
        }

  -- all pages are visited
  module _ (last : page + d ≡ p.pages) (some : 0 < length w) (word owner : ℕ) where
    none_left : p.pages - (page + d) ≡ 0
    none_left = omega arith

    all_there : visited p g f (new word owner) page ≡ cascaded (hash_of p g) f page d (new word owner ∷ [])
    unfolding cascaded
    all_there = whole word owner ∙ rw none_left (append-nil (cascaded (hash_of p g) f page d (new word owner ∷ [])))

    over : overflow p g f (new word owner) page ≡ carried_past (hash_of p g) f page d (new word owner ∷ [])
    unfolding carried_past
    over = past word owner ∙ rw none_left

    too_many : is_empty (overflow p g f (new word owner) page) ≡ false
    too_many =
        ap is_empty over
        ∙ not_empty (carried_past (hash_of p g) f page d (new word owner ∷ [])) (omega (arith, carried-count word owner))

    spilled : Spilled p g f (new word owner) page
    spilled = record { sound = all_sound word owner all_there; over = too_many }

-- what planning answers

module _ (p : Parameters) (g : Growth) (f : File) (k page : ℕ) (pool planned w : List ℕ) (d : ℕ) (P : Pushed p g f k page pool planned w d) where
  pub plans-unsound : 0 < length w → page + d < p.pages → sound_at p g f (page + d) ≡ false → (q : ℕ) → q ≡ page + d
      → (word owner : ℕ) → Stopped p g f (new_star_lem k word owner) page q
  plans-unsound some inside bad q e word owner = rw e (stopped p g f k page pool planned w d P some inside bad word owner)

  pub plans-overflow : page + d ≡ p.pages → 0 < length w → (word owner : ℕ) → Spilled p g f (new_star_lem k word owner) page
  plans-overflow last some word owner = spilled p g f k page pool planned w d P last some word owner

  pub plans-ends : length w ≡ 0 → (last : ℕ) → page + d ≡ last + 1 → page ≤ last → Plans p g f k page pool planned (Ends last)
  plans-ends none last e low = (low, (omega (arith, P.most), λ word owner. kept p g f k page pool planned w d P none word owner last (omega arith)))

-- the words that have come and the page's do not fit: it is the last page, and carries some on
module _ (p : Parameters) (g : Growth) (f : File) (k page : ℕ) (valid : valid_parameters p ≡ true) (sized : Sized p.places p.pages f)
    (number : valid_number k ≡ true) (unheld : Unheld p g f k) (here : page ≡ named_page_lem p g f.separators k)
    (pool planned w : List ℕ) (d from reach : ℕ) (P : Pushed p g f k page pool planned w d) (some : 0 < length w) where
  pub plans-crowded : page + d < p.pages → sound_at p g f (page + d) ≡ true → length pool ≡ p.pages * p.places → p.pages ≤ length planned
      → length w ≡ reach - from → from ≤ d * p.places → reach ≤ suc (d * p.places) → length (page_words p g f (page + d)) ≤ p.places
      → p.pages * p.places < reach + length (page_words p g f (page + d)) → (word owner : ℕ) → Spilled p g f (new_star_lem k word owner) page
  unfolding lowered_on
  plans-crowded inside sound lp ln lw kept come few many =
      plans-overflow p g f k page pool'' planned'' on (d + 1)
      (pushed-next p g f k page valid sized number unheld here pool planned w d P some inside sound pool'' planned''
      (rw lp (mul-le-mul_right p.places (omega arith))) (omega arith) refl refl)
      last-page carries
    where
      met : List ℕ
      met = w ++ page_words p g f (page + d)

      stored : ℕ
      stored = get_or f.separators (page + d) 0

      pool'' : List ℕ
      pool'' = written ((page + d) * p.places) (column p.places (λ (s : Star). s.payload.word) (lowered_to p (page + d) stored met ∷ [])) pool

      planned'' : List ℕ
      planned'' = written (page + d) (separators (lowered_to p (page + d) stored met ∷ [])) planned

      on : List ℕ
      on = lowered_on p (page + d) stored met

      last-page : page + (d + 1) ≡ p.pages
      last-page = go (dec_lt (page + (d + 1)) p.pages)
        where
          go : Dec (page + (d + 1) < p.pages) → page + (d + 1) ≡ p.pages
          go (yes l) =
              absurd (omega (arith, suc-mul (suc d) p.places, suc-mul d p.places, mul-le-mul_right {m = suc (suc d)} {n = p.pages} p.places (omega arith), (limits p valid).places_least))
          go (no l) = omega arith

      carries : 0 < length on
      carries =
          omega (
            arith,
            parted p (page + d) (words_separator_from p (page + d) met stored) met,
            separator_fits p (page + d) met stored,
            length-append w (page_words p g f (page + d)),
            suc-mul d p.places,
            mul-le-mul_right {m = suc d} {n = p.pages} p.places (omega arith),
          )
