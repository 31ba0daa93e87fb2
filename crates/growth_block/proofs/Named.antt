-- A plan applied to pages, page by page: what the sources name is the page that the plan gives.
use mathlib.Core.Path.{◌≡◌, sym, ap, ◌∙◌}
use mathlib.Core.List.{List, [], ◌∷◌, map, append-nil}
use Prim.Native.Nat.{ℕ, ◌+◌, ◌-◌, ◌*◌, ◌≤◌, ◌<◌}
use native.Mathlib.Nat.{add-mul, mul-le-mul_right}
use native.Mathlib.Omega.{arith}
use lib.ListN.{length, get_or, take, drop, length-map, length-drop}
use lib.Seq.{drop-cons, get_or-take, get_or-drop, length-take-le}
use Rattle.buffers.specs.Lists.{written, padded}
use Rattle.buffers.proofs.Written.{taken-written}
use Rattle.pages.specs.Page.{part}
use Rattle.pages.specs.Shape.{stretch}
use Rattle.hashing.specs.declared.Parameters.{Parameters}
use Rattle.placement.specs.Rule.{Star, Contents, separators}
use Rattle.placement.specs.Shape.{blank}
use Rattle.placement.specs.File.{File, column, replaced}
use Rattle.placement.specs.Shape.{Sized}
use Rattle.placement.proofs.Standing.{length-separators}
use Rattle.placement.proofs.Writing.{Roomy, length-column, part-column, get_d_separators}
use Rattle.placement.proofs.Files.{number_of, word_of, owner_of}
use Rattle.page_plan.specs.Sources.{named_item}
use Rattle.page_plan.proofs.Applying.{applied}
use Rattle.page_plan.proofs.Sourcing.{length-stretch}
use Rattle.growth_in_place.proofs.Alike.{part-within, map-part}
use Rattle.growth_block.specs.Block.{NamesPage}

-- two lists of one length, written over the same items
written_same : (at n : ℕ) (x y l : List ℕ) → length x ≡ n → length y ≡ n → at ≤ length l → written at x l ≡ written at y l → x ≡ y
written_same at n x y l ex ey h e = sym (taken-written at n x l ex h) ∙ ap (λ (m : List ℕ). take n (drop at m)) e ∙ taken-written at n y l ey h

-- one item of a list, as a list
pub one-item : {A : Type 0} (l : List A) (i : ℕ) (d : A) → i < length l → take 1 (drop i l) ≡ get_or l i d ∷ []
one-item l i d h = ap (take 1) (drop-cons l i d h)

-- the plan of the pages cs, applied to n pages from lo
module _ (p : Parameters) (f : File) (lo n step : ℕ) (pool planned : List ℕ) (cs : List Contents) (sized : Sized p.places p.pages f)
    (long : length pool ≡ p.pages * p.places) (room : lo + n ≤ length planned) (inside : lo + n ≤ p.pages) (roomy : Roomy p.places cs) (all : length cs ≡ n)
    (low : lo ≤ step) (high : step < lo + n) (e : applied p.places lo n 0 0 0 pool planned f ≡ replaced p.places f lo cs) where
  fits : lo * p.places + n * p.places ≤ p.pages * p.places
  fits = rw (← add-mul lo n p.places) (mul-le-mul_right p.places inside)

  items : (h : Star → ℕ) (l : List ℕ) → length l ≡ p.pages * p.places
      → written (lo * p.places) (map (named_item l 0) (stretch p.places lo n pool)) l ≡ written (lo * p.places) (column p.places h cs) l
      → map (named_item l 0) (part p.places step pool) ≡ column p.places h (get_or cs (step - lo) blank ∷ [])
  unfolding column
  items h l el is =
      let size : length (map (named_item l 0) (stretch p.places lo n pool)) ≡ n * p.places =
      length-map (stretch p.places lo n pool) (named_item l 0) ∙ length-stretch p.places lo n pool (rw (add-mul lo n p.places) (omega (arith, fits))) in
      let size' : length (column p.places h cs) ≡ n * p.places = length-column p.places h cs roomy ∙ ap (λ (m : ℕ). m * p.places) all in
      ap (map (named_item l 0)) (part-within p.places lo n step pool low high)
      ∙ sym (map-part (named_item l 0) p.places (step - lo) (stretch p.places lo n pool))
      ∙ ap (part p.places (step - lo))
      (written_same (lo * p.places) (n * p.places) (map (named_item l 0) (stretch p.places lo n pool)) (column p.places h cs) l size size' (omega (arith, fits)) is)
      ∙ part-column p.places h cs (step - lo) roomy (omega arith)
      ∙ sym (append-nil (padded p.places (map h (get_or cs (step - lo) blank).stars)))

  separator : written lo (take n (drop lo planned)) f.separators ≡ written lo (separators cs) f.separators → take 1 (drop step planned) ≡ separators (get_or cs (step - lo) blank ∷ [])
  unfolding separators
  separator is =
      let at : lo + (step - lo) ≡ step = omega arith in
      let same : take n (drop lo planned) ≡ separators cs =
      written_same lo n (take n (drop lo planned)) (separators cs) f.separators
      (length-take-le n (drop lo planned) (omega (arith, length-drop lo planned))) (length-separators cs ∙ all) (omega (arith, sized.of_separators)) is in
      one-item planned step 0 (omega arith)
      ∙ ap (λ (v : ℕ). v ∷ [])
      (ap (λ (i : ℕ). get_or planned i 0) (sym at)
      ∙ sym (get_or-drop lo planned (step - lo) 0)
      ∙ sym (get_or-take n (drop lo planned) (step - lo) 0 (omega arith))
      ∙ ap (λ (l : List ℕ). get_or l (step - lo) 0) same
      ∙ get_d_separators cs (step - lo))

  pub page-named : NamesPage p f pool planned step (get_or cs (step - lo) blank)
  unfolding applied replaced
  page-named =
      record {
        of_separators = separator (ap (λ (x : File). x.separators) e);
        of_numbers = items number_of f.numbers sized.of_numbers (ap (λ (x : File). x.numbers) e);
        of_words_lem = items word_of f.words sized.of_words_lem (ap (λ (x : File). x.words) e);
        of_owners = items owner_of f.owners sized.of_owners (ap (λ (x : File). x.owners) e);
      }
