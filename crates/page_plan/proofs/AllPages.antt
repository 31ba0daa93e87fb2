-- A stretch settled to its end, or until more words are left than the pages ahead have places and some more.
use mathlib.Core.Path.{◌≡◌, refl, sym, ap, ◌∙◌}
use mathlib.Core.Bool.{Bool, true, false, cond, not, false≢true}
use mathlib.Core.List.{List, [], ◌∷◌, ◌++◌}
use Prim.Native.Nat.{ℕ, zero, suc, ◌+◌, ◌-◌, ◌*◌, ◌≤◌, ◌<◌}
use native.Mathlib.Nat.{zero-add, zero-mul, suc-mul}
use native.Mathlib.Decide.{dec_lt}
use native.Mathlib.Omega.{arith}
use lib.Dec.{eqb}
use lib.ListN.{length, get_or, take, length-append}
use lib.Seq.{slice, length-slice, take_all}
use borrow.Author.Tests.{eq-eqb, ne_eqb, eqb-true, eqb-false}
use Rattle.hashing.specs.declared.Parameters.{Parameters}
use Rattle.generator.specs.Generator.{top_of_lem}
use Rattle.page_separator.specs.Lists.{selected}
use Rattle.page_separator.specs.Probes.{Probing, under, staying_words, passing_words, words_separator}
use Rattle.page_separator.proofs.Cutting.{separator_fits}
use Rattle.page_plan.specs.Gather.{group, grouped}
use Rattle.page_plan.specs.Plans.{carried_on_lem, remains, Planned, Started, Settleable, Settling, StretchSettled, AllPlaced, end_of}
use Rattle.page_plan.proofs.Grouping.{grouped-add}
use Rattle.page_plan.proofs.Blocks.{plans-add}
use Rattle.page_plan.proofs.Stretch.{probed-near, probed-inside, probed-within, ends-within, ends_last, planned-all}

-- those that a test takes and those that it leaves are all
both-length : (t : ℕ → Bool) (l : List ℕ) → length (selected t l) + length (selected (λ w. not (t w)) l) ≡ length l
unfolding selected
both-length t [] = refl
both-length t (x ∷ l) = go (t x) (both-length t l)
  where
    go : (b : Bool) → length (selected t l) + length (selected (λ w. not (t w)) l) ≡ length l
        → length (cond b (x ∷ selected t l) (selected t l)) + length (cond (not b) (x ∷ selected (λ w. not (t w)) l) (selected (λ w. not (t w)) l)) ≡ suc (length l)
    go true e = omega arith
    go false e = omega arith

-- a page keeps at most b
page-keeps : (q : Parameters) (p : ℕ) (l : List ℕ) → length l ≤ q.places + length (carried_on_lem q p l)
unfolding carried_on_lem passing_words staying_words words_separator
page-keeps q p l =
    let stay : length (selected (under q p (words_separator q p l)) l) ≤ q.places = separator_fits q p l (top_of_lem q.bits) in
    omega (arith, both-length (under q p (words_separator q p l)) l)

-- .. and n pages at most n times as many
pub remains-count : (q : Parameters) (lo v n : ℕ) (w l : List ℕ) → length w + length (grouped lo v n l) ≤ n * q.places + length (remains q lo v n w l)
unfolding remains grouped
remains-count q lo v zero w l = rw zero-mul (omega arith)
remains-count q lo v (suc n) w l =
    let here : List ℕ = w ++ group lo v l in
    omega (
      arith,
      suc-mul n q.places,
      page-keeps q (lo + v) here,
      length-append w (group lo v l),
      length-append (group lo v l) (grouped lo (suc v) n l),
      remains-count q lo (suc v) n (carried_on_lem q (lo + v) here) l,
    )

module _ (q : Parameters) (lo count carried end : ℕ) (l W pool planned ends : List ℕ) (size : carried + length l ≡ end) (inside : end ≤ length W)
    (S : Started lo count carried l W ends) (pool' W' planned' : List ℕ) (from v : ℕ) (I : Settling q lo count carried l W pool planned pool' W' planned' from v) where
  reached : end_of carried lo l v ≤ end
  reached = omega (arith, size, ends-within lo count carried l W ends S v I.upto)

  within : from ≤ end
  within = omega (arith, I.start, reached)

  waiting-count : length (remains q lo 0 v (take carried W) l) + from ≡ end_of carried lo l v
  waiting-count =
      omega (arith, I.start, ap length I.waiting, length-slice from (end_of carried lo l v) W' (omega (arith, reached, inside, I.long_waiting)))

  -- the pages ahead keep at most b each
  too_many : (spare : ℕ) → spare + (count - v) * q.places < end - from → spare < length (remains q lo 0 count (take carried W) l)
  too_many spare h =
      let w : List ℕ = take carried W in
      let rest : ℕ = count - v in
      let sum : v + rest ≡ count = omega (arith, I.upto) in
      let later : remains q lo 0 count w l ≡ remains q lo v rest (remains q lo 0 v w l) l
      = ap (λ (n : ℕ). remains q lo 0 n w l) (sym sum) ∙ (plans-add q lo 0 v rest w l).1 ∙ ap (λ (k : ℕ). remains q lo k rest (remains q lo 0 v w l) l) (zero-add v) in
      let groups : grouped lo 0 count l ≡ grouped lo 0 v l ++ grouped lo v rest l
      = ap (λ (n : ℕ). grouped lo 0 n l) (sym sum) ∙ grouped-add lo 0 v rest l ∙ ap (λ (k : ℕ). grouped lo 0 v l ++ grouped lo k rest l) (zero-add v) in
      omega (
        arith,
        size,
        ap length later,
        ap length groups,
        length-append (grouped lo 0 v l) (grouped lo v rest l),
        ends_last lo count carried l W ends S,
        waiting-count,
        within,
        remains-count q lo v rest (remains q lo 0 v w l) l,
      )

  settled-all : v ≡ count → Planned q lo count (take carried W) l pool pool' planned planned' (slice from end W') (end - from)
  settled-all e =
      planned-all q lo count carried l W pool planned ends S pool' W' planned' from v I e (slice from end W') end (end - from) (sym size) refl
      (take_all (end - from) (slice from end W') (omega (arith, length-slice from end W' (omega (arith, inside, I.long_waiting)))))

  settled-left : v ≡ count → length (remains q lo 0 count (take carried W) l) ≡ end - from
  settled-left e =
      omega (
        arith,
        size,
        ap (λ (n : ℕ). length (remains q lo 0 n (take carried W) l)) e,
        waiting-count,
        ap (end_of carried lo l) e,
        ends_last lo count carried l W ends S,
      )

module _ (q : Parameters) (lo count carried end : ℕ) (W pool planned ends : List ℕ) (P : Settleable q lo count carried end pool W planned ends)
    (pool' W' planned' : List ℕ) (from v : ℕ) (I : Settling q lo count carried (slice carried end W) W pool planned pool' W' planned' from v) where
  size : carried + length (slice carried end W) ≡ end
  size = omega (arith, P.order, length-slice carried end W P.inside)

  pub from-inside : from ≤ end
  from-inside = within q lo count carried end _ W pool planned ends size P.inside P.grouped_are pool' W' planned' from v I

  -- the words that wait up to the end of the next page's group probe that page
  pub page_probing : v < count → Probing (lo + v) from (get_or ends v 0) W'
  page_probing h =
      let reach : get_or ends v 0 ≡ end_of carried lo (slice carried end W) (suc v) = P.grouped_are.ended v h in
      let within : end_of carried lo (slice carried end W) (suc v) ≤ length W' = probed-within _ _ _ _ _ _ _ _ _ P.grouped_are _ _ _ _ _ I h in
      record {
        order = rw reach (probed-inside _ _ _ _ _ _ _ _ _ P.grouped_are _ _ _ _ _ I h);
        inside = rw reach within;
        most = omega (arith, reach, within, I.long_waiting, P.few);
        page = omega (arith, P.pages);
        homes = rw reach (probed-near _ _ _ _ _ _ _ _ _ P.grouped_are _ _ _ _ _ I h P.near);
      }

  pub stretch-settled : (spare : ℕ) → (v < count → spare + (count - v) * q.places < end - from)
      → StretchSettled q lo count end spare (take carried W) (slice carried end W) pool pool' planned planned' W' from
  stretch-settled spare ended = go (dec_lt v count)
    where
      go : Dec (v < count) → StretchSettled q lo count end spare (take carried W) (slice carried end W) pool pool' planned planned' W' from
      go (yes m) =
          record {
            inside = from-inside;
            plan = λ h. absurd (omega (arith, ended m, h));
            past = λ h. too_many q lo count carried end _ W pool planned ends size P.inside P.grouped_are pool' W' planned' from v I spare (ended m);
          }
      go (no m) =
          let e : v ≡ count = omega (arith, I.upto) in
          record {
            inside = from-inside;
            plan = λ h. settled-all q lo count carried end _ W pool planned ends size P.inside P.grouped_are pool' W' planned' from v I e;
            past = λ h. omega (arith, h, settled-left q lo count carried end _ W pool planned ends size P.inside P.grouped_are pool' W' planned' from v I e);
          }

-- what is left moved to the front
pub planned-closed : (q : Parameters) (lo count from end : ℕ) (w l pool pool' planned planned' W' W'' : List ℕ) (r : ℕ) → end ≤ length W'
    → Planned q lo count w l pool pool' planned planned' (slice from end W') (end - from) → r ≡ end - from → take r W'' ≡ slice from end W'
    → Planned q lo count w l pool pool' planned planned' W'' r
planned-closed q lo count from end w l pool pool' planned planned' W' W'' r h P er et =
    record {
      sources = P.sources;
      separators_are = P.separators_are;
      passed = et ∙ sym (take_all (end - from) (slice from end W') (omega (arith, length-slice from end W' h))) ∙ P.passed;
      counted = er ∙ P.counted;
    }

-- all pages of a file: each word finds a place if none is left
pub all_placed : (q : Parameters) (end : ℕ) (l pool pool' planned planned' W' : List ℕ) (r : ℕ)
    → StretchSettled q 0 q.pages end 0 [] l pool pool' planned planned' W' r → AllPlaced q l pool pool' planned planned' W' (eqb r end)
all_placed q end l pool pool' planned planned' W' r S = go (eqb r end) refl
  where
    go : (t : Bool) → eqb r end ≡ t → AllPlaced q l pool pool' planned planned' W' t
    go true t =
        let same : r ≡ end = eqb-true r end t in
        let none : end - r ≡ 0 = omega (arith, same) in
        let P = S.plan (omega (arith, none)) in
        record {
          fits = sym (eq-eqb (length (remains q 0 0 q.pages [] l)) 0 (omega (arith, none, P.counted)));
          plan =
              λ _. record {
                sources = P.sources;
                separators_are = P.separators_are;
                passed = rw none at P.passed;
                counted = rw none at P.counted;
              };
        }
    go false t =
        let other : r ≡ end → ⊥ = eqb-false r end t in
        record {
          fits = sym (ne_eqb (length (remains q 0 0 q.pages [] l)) 0 (λ z. omega (arith, z, S.past (omega (arith, other, S.inside)))));
          plan = λ f. absurd (false≢true f);
        }
