-- The pages in use, from where the search for the last non-zero number ends.
use mathlib.Core.Path.{◌≡◌, sym, ap, ◌∙◌}
use mathlib.Core.List.{List}
use Prim.Native.Nat.{ℕ, suc, ◌+◌, ◌-◌, ◌*◌, ◌/◌, ◌%◌, ◌≤◌, ◌<◌, max}
use native.Mathlib.Nat.{mod-lt, suc-mul, div-add-mod', add-div_right, div-eq_of_lt, div-lt_iff_lt-mul, lt-div-mul-add, mul-le-mul_right, max-eq_left}
use native.Mathlib.Decide.{dec_le, dec_lt}
use native.Mathlib.Omega.{arith}
use lib.ListN.{length, get_or, drop}
use lib.Seq.{drop-drop}
use Rattle.hashing.specs.declared.Parameters.{Parameters}
use Rattle.hashing.specs.declared.Growth.{Growth}
use Rattle.hashing.specs.Geometry.{highest}
use Rattle.pages.specs.Page.{part}
use Rattle.pages.proofs.Parts.{part-item}
use Rattle.calls.specs.Due.{stars, pages_holding, pages_in_use}
use Rattle.call_due.specs.Used.{Blank, Reaches, Used}
use Rattle.calls.proofs.InUse.{holding-most, holding-least}
use Rattle.call_due.proofs.Tallies.{stars-split, stars-none}

-- as many pages as some items need: one more than the page of the last item
pub needed_pages : (places end : ℕ) → 1 ≤ places → 0 < end → (end + places - 1) / places ≡ (end - 1) / places + 1
needed_pages places end least h =
    let next : end + places - 1 ≡ end - 1 + places = omega arith in
    ap (λ (n : ℕ). n / places) next ∙ add-div_right (end - 1) least

pub needed_none : (places end : ℕ) → 1 ≤ places → end ≡ 0 → (end + places - 1) / places ≡ 0
needed_none places end least z = div-eq_of_lt (omega arith)

-- the pages to the last non-zero number are as many as its items need
blank-pages : (places end : ℕ) (numbers : List ℕ) → 1 ≤ places → Blank numbers end → (page : ℕ) → (end + places - 1) / places ≤ page → stars (part places page numbers) ≡ 0
unfolding part
blank-pages places end numbers least b page h =
    let near : end + places - 1 < (end + places - 1) / places * places + places = lt-div-mul-add least in
    let far : (end + places - 1) / places * places ≤ page * places = mul-le-mul_right places h in
    let past : end + (page * places - end) ≡ page * places = omega arith in
    omega (
      arith,
      stars-split places (drop (page * places) numbers),
      rw (drop-drop (page * places - end) end numbers, past) at (stars-split (page * places - end) (drop end numbers)),
      b.rest,
    )

module _ (places pages end : ℕ) (numbers : List ℕ) (least : 1 ≤ places) (sized : length numbers ≡ pages * places) (u : Used numbers end) where
  last-page : 0 < end → stars (part places ((end - 1) / places) numbers) ≡ 0 → ⊥
  last-page h e =
      u.last h
      (ap (λ (i : ℕ). get_or numbers i 0) (sym (div-add-mod' (end - 1) places))
      ∙ (sym (part-item places ((end - 1) / places) numbers ((end - 1) % places) (mod-lt (end - 1) least))
      ∙ stars-none (part places ((end - 1) / places) numbers) ((end - 1) % places) e))

  pub holding-is : pages_holding places numbers pages ≡ (end + places - 1) / places
  holding-is = go (dec_le end 0)
    where
      most : pages_holding places numbers pages ≤ (end + places - 1) / places
      most = holding-most places numbers pages _ (λ page h b. blank-pages places end numbers least u.blank page h)

      go : Dec (end ≤ 0) → pages_holding places numbers pages ≡ (end + places - 1) / places
      go (yes z) = omega (arith, most, needed_none places end least (omega arith))
      go (no z) =
          let inside : end - 1 < pages * places = omega (arith, u.blank.within) in
          omega (
            arith,
            most,
            needed_pages places end least (omega arith),
            holding-least places numbers pages ((end - 1) / places) ((div-lt_iff_lt-mul least).1 inside) (last-page (omega arith)),
          )

-- as many pages as some items need are no more than hold them
div_most : (n places end : ℕ) → 1 ≤ places → end ≤ n * places → (end + places - 1) / places ≤ n
div_most n places end least h =
    let near : (end + places - 1) / places < suc n = (div-lt_iff_lt-mul least).1 (rw (suc-mul n places) (omega arith)) in
    omega arith

module _ (p : Parameters) (g : Growth) (numbers : List ℕ) where
  -- from where the search for the last number ends: at it, or at the last addressed item
  pub in_use_reached : (end : ℕ) → 1 ≤ p.places → length numbers ≡ p.pages * p.places → Reaches numbers ((highest p g + 1) * p.places) end
      → pages_in_use p g numbers ≡ max (highest p g + 1) ((end + p.places - 1) / p.places)
  unfolding pages_in_use
  in_use_reached end least sized r = go (dec_lt ((highest p g + 1) * p.places) end)
    where
      low : end ≤ (highest p g + 1) * p.places → (end + p.places - 1) / p.places ≤ highest p g + 1
      low h = div_most (highest p g + 1) p.places end least h

      go : Dec ((highest p g + 1) * p.places < end) → max (highest p g + 1) (pages_holding p.places numbers p.pages) ≡ max (highest p g + 1) ((end + p.places - 1) / p.places)
      go (yes h) = ap (λ (n : ℕ). max (highest p g + 1) n) (holding-is p.places p.pages end numbers least sized (record { blank = r.blank; last = λ z. r.last h }))
      go (no h) =
          let few : (end + p.places - 1) / p.places ≤ highest p g + 1 = low (omega arith) in
          max-eq_left (holding-most p.places numbers p.pages (highest p g + 1) (λ page a b. blank-pages p.places end numbers least r.blank page (omega (arith, few))))
          ∙ sym (max-eq_left few)
