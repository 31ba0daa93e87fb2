-- A row that is added is valid and new.
-- Assumes nothing.
use mathlib.Core.Path.{◌≡◌, refl, sym, ap, ◌∙◌}
use mathlib.Core.Bool.{Bool, true, false, cond}
use mathlib.Core.List.{List, [], ◌∷◌, ◌++◌}
use Prim.Native.Nat.{ℕ, ◌+◌, ◌<◌, ◌≤◌}
use native.Mathlib.Omega.{arith}
use lib.Dec.{eqb, ltb}
use lib.ListN.{length, length-append}
use borrow.Author.Tests.{ltb-true, eqb-false, lt-ltb, le-ltb}
use Rattle.fits_table.specs.Order.{All}
use Rattle.lines.specs.declared.Command.{Command}
use Rattle.lines.specs.declared.Command.TheVariants.{Enter, LookUp, Remove, Grow, Bad}
use Rattle.lines.specs.Replies.{TextAt}
use Rattle.lines.proofs.Digits.{length-field}
use Rattle.pages.specs.declared.position.Position.{Position}
use Rattle.pages.specs.Position.{valid_number, valid_position, valid_word, packed}
use Rattle.pages.proofs.Words.{pack-valid}
use Rattle.catalogues.specs.Entries.{standing_of, effect_on, entry_of, effect_of, added_to, is_refusal_lem, effect_text}
use Rattle.catalogues.specs.Shape.{is_added}
use Rattle.catalogues.specs.Runs.{Proper}
use Rattle.catalogues.specs.declared.entries.Standing.{Standing}
use Rattle.catalogues.specs.declared.entries.Standing.TheVariants.{New, Same, Other}
use Rattle.catalogues.specs.declared.entries.Effect.{Effect}
use Rattle.catalogues.specs.declared.entries.Effect.TheVariants.{Added, Repeated, Refused, Malformed}

pub record Addable (rows : List (ℕ × ℕ)) (number word : ℕ) : Type 0 where
  pub number-valid : valid_number number ≡ true
  pub word-valid : valid_word word ≡ true
  pub new : standing_of number word rows ≡ New
  pub room : length rows < 32768

abbrev pub Good : List (ℕ × ℕ) → Effect → Type 0
Good rows (Added number word) = Addable rows number word
Good rows Repeated = Unit {0}
Good rows (Refused n) = Unit {0}
Good rows Malformed = Unit {0}

entry-good : (rows : List (ℕ × ℕ)) (number : ℕ) (p : Position) → Good rows (entry_of rows number p)
unfolding entry_of effect_on
entry-good rows number p = go (valid_number number) refl (valid_position p) refl
  where
    placed : (t : Bool) → ltb (length rows) 32768 ≡ t → valid_number number ≡ true → valid_position p ≡ true → standing_of number (packed p) rows ≡ New
        → Good rows (cond t (Added number (packed p)) (Refused 8))
    placed true e n v s = record { number-valid = n; word-valid = pack-valid p v; new = s; room = ltb-true (length rows) 32768 e }
    placed false e n v s = tt

    by : (s : Standing) → standing_of number (packed p) rows ≡ s → valid_number number ≡ true → valid_position p ≡ true
        → Good rows (effect_on s rows number (packed p))
    by New e n v = placed (ltb (length rows) 32768) refl n v e
    by Same e n v = tt
    by Other e n v = tt

    go : (a : Bool) → valid_number number ≡ a → (b : Bool) → valid_position p ≡ b
        → Good rows (cond a (cond b (effect_on (standing_of number (packed p) rows) rows number (packed p)) (Refused 4)) (Refused 3))
    go true n true v = by (standing_of number (packed p) rows) refl n v
    go true n false v = tt
    go false n b v = tt

pub effect-good : (rows : List (ℕ × ℕ)) (c : Command) → Good rows (effect_of rows c)
unfolding effect_of
effect-good rows (Enter number ra dec) = entry-good rows number (record { ra = ra; dec = dec })
effect-good rows (LookUp number) = tt
effect-good rows (Remove number) = tt
effect-good rows Grow = tt
effect-good rows Bad = tt

all_snoc : {A : Type 0} (P : A → Type 0) (l : List A) (x : A) → All P l → P x → All P (l ++ (x ∷ []))
all_snoc P [] x a p = (p, tt)
all_snoc P (y ∷ l) x a p = (a.0, all_snoc P l x a.1 p)

-- a new number is none of those before
passed : (r : ℕ × ℕ) (rs : List (ℕ × ℕ)) (n w : ℕ) → standing_of n w (r ∷ rs) ≡ New → (r.0 ≡ n → ⊥) × (standing_of n w rs ≡ New)
unfolding standing_of
passed r rs n w e = go (eqb r.0 n) refl (eqb r.1 w) e
  where
    go : (t : Bool) → eqb r.0 n ≡ t → (u : Bool) → cond t (cond u Same Other) (standing_of n w rs) ≡ New → (r.0 ≡ n → ⊥) × (standing_of n w rs ≡ New)
    go true t true e = let z : ◌≡◌ {A = ℕ} 0 1 = cc in absurd (omega arith)
    go true t false e = let z : ◌≡◌ {A = ℕ} 0 1 = cc in absurd (omega arith)
    go false t u e = (eqb-false r.0 n t, e)

proper-snoc : (rs : List (ℕ × ℕ)) (n w : ℕ) → Proper rs → valid_number n ≡ true → valid_word w ≡ true → standing_of n w rs ≡ New → Proper (rs ++ ((n, w) ∷ []))
proper-snoc [] n w p a b e = ((a, b), (tt, tt))
proper-snoc (r ∷ rs) n w p a b e =
    let past = passed r rs n w e in
    (p.0, (all_snoc (λ (s : ℕ × ℕ). r.0 ≡ s.0 → ⊥) rs (n, w) p.1.0 past.0, proper-snoc rs n w p.1.1 a b past.1))

pub proper-added : (rows : List (ℕ × ℕ)) (e : Effect) → Good rows e → Proper rows → Proper (added_to rows e)
unfolding added_to
proper-added rows (Added n w) g p = proper-snoc rows n w p g.number-valid g.word-valid g.new
proper-added rows Repeated g p = p
proper-added rows (Refused n) g p = p
proper-added rows Malformed g p = p

pub added-room : (rows : List (ℕ × ℕ)) (e : Effect) → Good rows e → is_added e ≡ true → length rows < 32768
unfolding is_added
added-room rows (Added n w) g t = g.room
added-room rows Repeated g t = let z : ◌≡◌ {A = ℕ} 0 1 = cc in absurd (omega arith)
added-room rows (Refused n) g t = let z : ◌≡◌ {A = ℕ} 0 1 = cc in absurd (omega arith)
added-room rows Malformed g t = let z : ◌≡◌ {A = ℕ} 0 1 = cc in absurd (omega arith)

-- a line that is taken puts out nothing
pub quiet : (n : ℕ) (e : Effect) → is_refusal_lem e ≡ false → effect_text n e ≡ []
unfolding is_refusal_lem effect_text
quiet n (Added number word) h = refl
quiet n Repeated h = refl
quiet n (Refused r) h = let z : ◌≡◌ {A = ℕ} 0 1 = cc in absurd (omega arith)
quiet n Malformed h = let z : ◌≡◌ {A = ℕ} 0 1 = cc in absurd (omega arith)

pub text_short : (n : ℕ) (e : Effect) → length (effect_text n e) ≤ 37
unfolding effect_text
text_short n (Added number word) = omega arith
text_short n Repeated = omega arith
text_short n (Refused r) = simp length-append (omega (arith, length-field r 32, length-field n 10))
text_short n Malformed = omega (arith, length-field n 10)

pub put-short : (n at : ℕ) (text before after : List ℕ) (next : ℕ) → TextAt at text before after next → length text ≤ n
    → (TextAt at text before after next) × (next ≤ at + n)
put-short n at text before after next w h = (w, omega (arith, w.end))

-- an entry, test by test
module _ (rows : List (ℕ × ℕ)) (n : ℕ) (p : Position) where
  pub number-refused : valid_number n ≡ false → Refused 3 ≡ entry_of rows n p
  unfolding entry_of
  number-refused e = rw e

  pub position-refused : valid_number n ≡ true → valid_position p ≡ false → Refused 4 ≡ entry_of rows n p
  unfolding entry_of
  position-refused e f = rw (e, f)

  module _ (e : valid_number n ≡ true) (f : valid_position p ≡ true) (word : ℕ) (w : word ≡ packed p) (s : Standing) (t : s ≡ standing_of n word rows) where
    stands : effect_on s rows n word ≡ entry_of rows n p
    unfolding entry_of
    stands = rw (e, f, ← w, ← t)

    pub full : s ≡ New → 32768 ≤ length rows → Refused 8 ≡ entry_of rows n p
    unfolding effect_on
    full k h = let z : effect_on New rows n word ≡ Refused 8 = rw (le-ltb (length rows) 32768 h) in sym (sym stands ∙ ap (λ (x : Standing). effect_on x rows n word) k ∙ z)

    pub taken : s ≡ New → length rows < 32768 → Added n word ≡ entry_of rows n p
    unfolding effect_on
    taken k h = let z : effect_on New rows n word ≡ Added n word = rw (lt-ltb (length rows) 32768 h) in sym (sym stands ∙ ap (λ (x : Standing). effect_on x rows n word) k ∙ z)

    pub again : s ≡ Same → Repeated ≡ entry_of rows n p
    unfolding effect_on
    again k = sym (sym stands ∙ ap (λ (x : Standing). effect_on x rows n word) k)

    pub other : s ≡ Other → Refused 6 ≡ entry_of rows n p
    unfolding effect_on
    other k = sym (sym stands ∙ ap (λ (x : Standing). effect_on x rows n word) k)
