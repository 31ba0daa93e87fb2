-- The list closed up as a whole: the reports that stay before zeros.
use mathlib.Core.Path.{◌≡◌, refl, sym, ap, ◌∙◌}
use mathlib.Core.Bool.{Bool, true, false, cond}
use mathlib.Core.List.{List, [], ◌∷◌, ◌++◌, append-nil}
use Prim.Native.Nat.{ℕ, zero, suc, ◌+◌, ◌-◌, ◌<◌, ◌≤◌}
use native.Mathlib.Nat.{not-suc-le-zero}
use native.Mathlib.Omega.{arith}
use lib.Dec.{ltb}
use lib.ListN.{length, take, drop, get_or, replicate, length-append, length-drop, length-replicate, get_or-append}
use Rattle.std.proofs.lemmas.List.{drop_at, drop-drop, drop-take, append_assoc}
use native.Mathlib.Nat.{zero-add}
use lib.Seq.{paste, get_or-append_seam, get_or-append-add, get_or-take, get_or-drop, length-take-le, take_at, drop-length, ext_get_or}
use borrow.Author.Tests.{lt-ltb, le-ltb, ltb-true, ltb-false}
use Rattle.reports.specs.declared.Report.{Report}
use Rattle.reports.specs.Reports.{no_report}
use Rattle.tray_list.specs.Closing.{kept_or, places_after, closed_to}
use Rattle.tray_list.specs.Loading.{loaded}
use Rattle.tray_list.proofs.Closing.{length-places}
use borrow.Rule.Slice.PartMut.{put_mid}

-- the first n reports of the list are those of its copy
pub taken-loaded : (n : ℕ) (ys : List Report) → n ≤ length ys → take n (loaded (take n ys)) ≡ take n ys
unfolding loaded
taken-loaded n ys h = take_at (take n ys) (replicate (256 - length (take n ys)) no_report) n (length-take-le n ys h)

place_at : (m n k : ℕ) (ys : List Report) (i : ℕ) → i < k → get_or (places_after m n k ys) i no_report ≡ kept_or i n (get_or ys (m + i) no_report)
unfolding places_after
place_at m n zero ys i h = absurd (not-suc-le-zero h)
place_at m n (suc k) ys i h = go (ltb i k) refl (place_at m n k ys i)
  where
    last : Report
    last = kept_or k n (get_or ys (m + k) no_report)

    go : (t : Bool) → ltb i k ≡ t → (i < k → get_or (places_after m n k ys) i no_report ≡ kept_or i n (get_or ys (m + i) no_report)) → get_or (places_after m n k ys ++ (last ∷ [])) i no_report ≡ kept_or i n (get_or ys (m + i) no_report)
    go true e before = get_or-append (places_after m n k ys) (last ∷ []) no_report i (rw (length-places m n k ys) (ltb-true i k e)) ∙ before (ltb-true i k e)
    go false e before =
        let here : i ≡ k = omega (arith, h, ltb-false i k e) in
        rw here (ap (λ (u : ℕ). get_or (places_after m n k ys ++ (last ∷ [])) u no_report) (sym (length-places m n k ys)) ∙ get_or-append_seam (places_after m n k ys) last [] no_report)

blank-at : (n i : ℕ) → get_or (replicate n no_report) i no_report ≡ no_report
blank-at zero i = refl
blank-at (suc n) zero = refl
blank-at (suc n) (suc i) = blank-at n i

abbrev staying : ℕ → ℕ → List Report → List Report
staying m n ys = drop m (take (m + n) ys)

length-staying : (m n : ℕ) (ys : List Report) → m + n ≤ length ys → length (staying m n ys) ≡ n
length-staying m n ys h = length-drop m (take (m + n) ys) ∙ rw (length-take-le (m + n) ys h) (omega arith)

stays_at : (m n k : ℕ) (ys : List Report) (i : ℕ) → m + n ≤ length ys → kept_or i n (get_or ys (m + i) no_report) ≡ get_or (staying m n ys ++ replicate (k - n) no_report) i no_report
unfolding kept_or
stays_at m n k ys i h = go (ltb i n) refl
  where
    go : (t : Bool) → ltb i n ≡ t → cond t (get_or ys (m + i) no_report) no_report ≡ get_or (staying m n ys ++ replicate (k - n) no_report) i no_report
    go true e =
        sym (get_or-append (staying m n ys) (replicate (k - n) no_report) no_report i (rw (length-staying m n ys h) (ltb-true i n e))
        ∙ get_or-drop m (take (m + n) ys) i no_report
        ∙ get_or-take (m + n) ys (m + i) no_report (omega (arith, ltb-true i n e)))
    go false e =
        let past : i ≡ length (staying m n ys) + (i - n) = rw (length-staying m n ys h) (omega (arith, ltb-false i n e)) in
        sym (ap (λ (u : ℕ). get_or (staying m n ys ++ replicate (k - n) no_report) u no_report) past
        ∙ get_or-append-add (staying m n ys) (replicate (k - n) no_report) (i - n) no_report
        ∙ blank-at (k - n) (i - n))

places-are : (m n k : ℕ) (ys : List Report) → m + n ≤ length ys → n ≤ k → places_after m n k ys ≡ staying m n ys ++ replicate (k - n) no_report
places-are m n k ys h g =
    ext_get_or no_report (places_after m n k ys) (staying m n ys ++ replicate (k - n) no_report)
    (length-places m n k ys ∙ sym (length-append (staying m n ys) (replicate (k - n) no_report) ∙ rw (length-staying m n ys h, length-replicate (k - n) no_report) (omega (arith, g))))
    (λ i l. place_at m n k ys i (rw (length-places m n k ys) at l) ∙ stays_at m n k ys i h)

pub blanks : (n k : ℕ) (ys : List Report) → k ≤ length ys → length (take (k - n) (drop n ys)) ≡ k - n
blanks n k ys h = length-take-le (k - n) (drop n ys) (rw length-drop (omega arith))

moved : (m n : ℕ) (ys : List Report) → paste ys 0 (drop m ys) n ≡ staying m n ys ++ drop n ys
moved m n ys = rw (zero-add n, drop-take m n ys)

-- the reports that stay, zeros, and the others as they were
pub closed_parts : (m n k : ℕ) (ys : List Report) → m + n ≤ k → k ≤ length ys → put_mid n (k - n) (paste ys 0 (drop m ys) n) (replicate (k - n) no_report) ≡ closed_to m n k ys
unfolding closed_to
closed_parts m n k ys h b =
    let size : length (staying m n ys) ≡ n = length-staying m n ys (omega arith) in
    let back : n + (k - n) ≡ k = omega arith in
    ap (λ (xs : List Report). put_mid n (k - n) xs (replicate (k - n) no_report)) (moved m n ys)
    ∙ rw (take_at (staying m n ys) (drop n ys) n size, drop_at (staying m n ys) (drop n ys) n size, drop-drop, back, places-are m n k ys (omega arith) (omega arith), append_assoc)

-- "the others close up before zeros"
pub closed-up : (m n : ℕ) (ys : List Report) → length ys ≡ 256 → m + n ≤ 256 → closed_to m n 256 ys ≡ drop m (take (m + n) ys) ++ replicate (256 - n) no_report
unfolding closed_to
closed-up m n ys size h =
    let none : drop 256 ys ≡ [] = ap (λ (u : ℕ). drop u ys) (sym size) ∙ drop-length ys in
    rw (none, append-nil) (places-are m n 256 ys (omega (arith, size, h)) (omega (arith, h)))
