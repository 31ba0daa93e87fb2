-- The stars among items: taken together, and their homes given back to the items.
use mathlib.Core.Path.{◌≡◌, refl, sym, ap, ◌∙◌}
use mathlib.Core.Bool.{Bool, true, false, cond, not}
use mir.Val.{bool_byte}
use mathlib.Core.List.{List, [], ◌∷◌, ◌++◌, map, append-nil}
use Prim.Native.Nat.{ℕ, zero, suc, ◌+◌, ◌*◌, ◌%◌, ◌≤◌, ◌<◌}
use native.Mathlib.Nat.{add-zero, zero-add, add_assoc, mul-zero, mul-one, mod-eq_of_lt, le_refl}
use native.Mathlib.Numerals.{add-one}
use native.Mathlib.Omega.{arith}
use lib.Dec.{eqb}
use lib.ListN.{length, get_or, take, drop, set, length-append, length-set, length-drop}
use lib.Seq.{take-suc, take-suc-set, take-set-le, take-length, take_all, length-take-le, paste, paste-zero, paste-suc, get_or-take, get_or-drop}
use Rattle.buffers.proofs.Lists.{map-take}
use Rattle.hashing.specs.declared.Geometry.{Geometry}
use Rattle.placement.specs.Shape.{home_in, homes_of, home_under}
use Rattle.soundness.specs.Stars.{one_if_star_lem, star_numbers, spread_from}
use Rattle.soundness.proofs.Items.{item-at}

pub item_of : (ns : List ℕ) (first items i : ℕ) → i < items → get_or ns (first + i) 0 ≡ get_or (take items (drop first ns)) i 0
item_of ns first items i h = sym (get_or-take items (drop first ns) i 0 h ∙ get_or-drop first ns i 0)

pub items_of : (ns : List ℕ) (first items : ℕ) → first + items ≤ length ns → length (take items (drop first ns)) ≡ items
items_of ns first items h = length-take-le items (drop first ns) (omega (arith, length-drop first ns))

-- whether a number is a star's, as a number
pub star-byte : (n : ℕ) → bool_byte (not (eqb n 0)) ≡ one_if_star_lem n
unfolding one_if_star_lem
star-byte n = elim (eqb n 0) as (λ t. bool_byte (not t) ≡ cond t 0 1) [ true ↦ refl | false ↦ refl ]

-- one number more
stars-snoc : (xs : List ℕ) (n : ℕ) → star_numbers (xs ++ (n ∷ [])) ≡ star_numbers xs ++ cond (eqb n 0) [] (n ∷ [])
unfolding star_numbers
stars-snoc [] n = refl
stars-snoc (x ∷ xs) n = go (eqb x 0) (stars-snoc xs n)
  where
    go : (t : Bool) → star_numbers (xs ++ (n ∷ [])) ≡ star_numbers xs ++ cond (eqb n 0) [] (n ∷ [])
        → cond t (star_numbers (xs ++ (n ∷ []))) (x ∷ star_numbers (xs ++ (n ∷ []))) ≡ cond t (star_numbers xs) (x ∷ star_numbers xs) ++ cond (eqb n 0) [] (n ∷ [])
    go true e = e
    go false e = ap (λ (l : List ℕ). x ∷ l) e

stars-next : (ns : List ℕ) (i : ℕ) → i < length ns → star_numbers (take (i + 1) ns) ≡ star_numbers (take i ns) ++ cond (eqb (get_or ns i 0) 0) [] (get_or ns i 0 ∷ [])
stars-next ns i h = rw (add-one i, take-suc ns i 0 h) (stars-snoc (take i ns) (get_or ns i 0))

counted_next : (ns : List ℕ) (i : ℕ) → i < length ns → length (star_numbers (take i ns)) + one_if_star_lem (get_or ns i 0) ≡ length (star_numbers (take (i + 1) ns))
unfolding one_if_star_lem
counted_next ns i h =
    sym
    (ap length (stars-next ns i h)
    ∙ length-append (star_numbers (take i ns)) (cond (eqb (get_or ns i 0) 0) [] (get_or ns i 0 ∷ []))
    ∙ ap (λ (k : ℕ). length (star_numbers (take i ns)) + k) (one (eqb (get_or ns i 0) 0)))
  where
    one : (t : Bool) → length (cond t [] (get_or ns i 0 ∷ [])) ≡ cond t 0 1
    one true = refl
    one false = refl

-- of the first i numbers the stars stand at the front of the block
pub record Taking (ns : List ℕ) (i stars : ℕ) (block : List ℕ) : Type 0 where
  pub long : length block ≡ 32
  pub most : stars ≤ 32
  pub fewer : stars ≤ i
  pub counted : stars ≡ length (star_numbers (take i ns))
  pub taken : take stars block ≡ star_numbers (take i ns)

pub taking-none : (ns block : List ℕ) → length block ≡ 32 → Taking ns 0 0 block
unfolding star_numbers
taking-none ns block e = record { long = e; most = omega arith; fewer = omega arith; counted = refl; taken = refl }

pub taking-next : {ns : List ℕ} {i stars : ℕ} {block : List ℕ} {n one : ℕ} → Taking ns i stars block → i < length ns → (stars ≡ 32 → ⊥) → n ≡ get_or ns i 0 → one ≡ one_if_star_lem n
    → Taking ns (i + 1) (stars + one) (set block stars n)
unfolding one_if_star_lem
taking-next {ns} {i} {stars} {block} {n} {one} t h room e f = go (eqb n 0) refl
  where
    next : star_numbers (take (i + 1) ns) ≡ take stars block ++ cond (eqb n 0) [] (n ∷ [])
    next = rw (e, t.taken) (stars-next ns i h)

    counted : stars + one ≡ length (star_numbers (take (i + 1) ns))
    counted = rw (f, e, t.counted) (counted_next ns i h)

    go : (b : Bool) → eqb n 0 ≡ b → Taking ns (i + 1) (stars + one) (set block stars n)
    go true z =
        let none : one ≡ 0 = f ∙ rw z in
        let same : stars + one ≡ stars = omega (arith, none) in
        record {
          long = length-set block stars n ∙ t.long;
          most = omega (arith, none, t.most);
          fewer = omega (arith, none, t.fewer);
          counted = counted;
          taken = rw (same) (take-set-le stars block stars n (le_refl stars) ∙ sym (next ∙ rw z (append-nil (take stars block))));
        }
    go false z =
        let some : one ≡ 1 = f ∙ rw z in
        let more : stars + one ≡ suc stars = omega (arith, some) in
        record {
          long = length-set block stars n ∙ t.long;
          most = omega (arith, some, t.most, room);
          fewer = omega (arith, some, t.fewer);
          counted = counted;
          taken = rw (more) (take-suc-set block stars n (omega (arith, t.long, t.most, room)) ∙ sym (next ∙ rw z));
        }

spread-length : (hs : List ℕ) (k : ℕ) (xs : List ℕ) → length (spread_from hs k xs) ≡ length xs
unfolding spread_from
spread-length hs k [] = refl
spread-length hs k (x ∷ xs) = ap suc (spread-length hs (k + one_if_star_lem x) xs)

spread-item : (hs : List ℕ) (k : ℕ) (xs : List ℕ) (i : ℕ) → i < length xs
    → get_or (spread_from hs k xs) i 0 ≡ get_or hs ((k + length (star_numbers (take i xs))) % 32) 0 * one_if_star_lem (get_or xs i 0)
unfolding spread_from star_numbers one_if_star_lem
spread-item hs k [] i h = absurd (omega arith)
spread-item hs k (x ∷ xs) zero h = rw (add-zero k)
spread-item hs k (x ∷ xs) (suc i) h =
    spread-item hs (k + one_if_star_lem x) xs i (omega arith)
    ∙ ap (λ (m : ℕ). get_or hs (m % 32) 0 * one_if_star_lem (get_or xs i 0)) (add_assoc k (one_if_star_lem x) (length (star_numbers (take i xs))) ∙ ap (λ (m : ℕ). k + m) (one (eqb x 0)))
  where
    one : (t : Bool) → cond t 0 1 + length (star_numbers (take i xs)) ≡ length (cond t (star_numbers (take i xs)) (x ∷ star_numbers (take i xs)))
    one true = zero-add (length (star_numbers (take i xs)))
    one false = omega arith

spread-next : (hs xs d l : List ℕ) (to i taken v : ℕ) → i < length xs → to + i < length d → taken ≡ length (star_numbers (take i xs))
    → l ≡ paste d to (spread_from hs 0 xs) i → v ≡ get_or hs (taken % 32) 0 * one_if_star_lem (get_or xs i 0) → set l (to + i) v ≡ paste d to (spread_from hs 0 xs) (i + 1)
spread-next hs xs d l to i taken v h r counted e f =
    let item : v ≡ get_or (spread_from hs 0 xs) i 0 = f ∙ sym (spread-item hs 0 xs i h ∙ rw (zero-add (length (star_numbers (take i xs))), ← counted)) in
    rw (e, item, add-one i) (paste-suc d to (spread_from hs 0 xs) i 0 r (omega (arith, spread-length hs 0 xs)))

-- the first i items have what is spread over them
pub record Spreading (hs xs d : List ℕ) (to i : ℕ) (homes : List ℕ) (taken : ℕ) : Type 0 where
  pub fewer : taken ≤ i
  pub long : length homes ≡ length d
  pub counted : taken ≡ length (star_numbers (take i xs))
  pub are : homes ≡ paste d to (spread_from hs 0 xs) i

pub spreading_none : (hs xs d : List ℕ) (to : ℕ) → Spreading hs xs d to 0 d 0
unfolding star_numbers
spreading_none hs xs d to = record { fewer = omega arith; long = refl; counted = refl; are = paste-zero d to (spread_from hs 0 xs) }

one-most : (n : ℕ) → one_if_star_lem n ≤ 1
unfolding one_if_star_lem
one-most n = elim (eqb n 0) as (λ t. cond t 0 1 ≤ 1) [ true ↦ omega arith | false ↦ omega arith ]

pub spreading_next : {hs xs d : List ℕ} {to i : ℕ} {homes : List ℕ} {taken : ℕ} (n one home : ℕ) → Spreading hs xs d to i homes taken → i < length xs → to + i < length d
    → n ≡ get_or xs i 0 → one ≡ one_if_star_lem n → home ≡ get_or hs (taken % 32) 0 → Spreading hs xs d to (i + 1) (set homes (to + i) (home * one)) (taken + one)
spreading_next {hs} {xs} {d} {to} {i} {homes} {taken} n one home s h r e f v =
    record {
      fewer = omega (arith, s.fewer, f, one-most n);
      long = length-set homes (to + i) (home * one) ∙ s.long;
      counted = rw (f, e, s.counted) (counted_next xs i h);
      are = spread-next hs xs d homes to i taken (home * one) h r s.counted s.are (rw (v, f, e));
    }

-- where hs has the homes of the stars, each item gets its own
spread-homes : (f : ℕ → ℕ) (hs : List ℕ) (k : ℕ) (xs : List ℕ) → k + length (star_numbers xs) ≤ 32
    → ((j : ℕ) → j < length (star_numbers xs) → get_or hs (k + j) 0 ≡ f (get_or (star_numbers xs) j 0))
    → spread_from hs k xs ≡ map (λ (n : ℕ). cond (eqb n 0) 0 (f n)) xs
unfolding spread_from star_numbers one_if_star_lem
spread-homes f hs k [] most are = refl
spread-homes f hs k (x ∷ xs) most are = go (eqb x 0) most are (λ m. spread-homes f hs m xs)
  where
    go : (t : Bool) → k + length (cond t (star_numbers xs) (x ∷ star_numbers xs)) ≤ 32
        → ((j : ℕ) → j < length (cond t (star_numbers xs) (x ∷ star_numbers xs)) → get_or hs (k + j) 0 ≡ f (get_or (cond t (star_numbers xs) (x ∷ star_numbers xs)) j 0))
        → ((m : ℕ) → m + length (star_numbers xs) ≤ 32 → ((j : ℕ) → j < length (star_numbers xs) → get_or hs (m + j) 0 ≡ f (get_or (star_numbers xs) j 0)) → spread_from hs m xs ≡ map (λ (n : ℕ). cond (eqb n 0) 0 (f n)) xs)
        → get_or hs (k % 32) 0 * cond t 0 1 ∷ spread_from hs (k + cond t 0 1) xs ≡ cond t 0 (f x) ∷ map (λ (n : ℕ). cond (eqb n 0) 0 (f n)) xs
    go true most are others = rw (mul-zero (get_or hs (k % 32) 0), add-zero k) (ap (λ (l : List ℕ). 0 ∷ l) (others k most are))
    go false most are others =
        let low : k % 32 ≡ k = mod-eq_of_lt (omega arith) in
        let here : get_or hs k 0 ≡ f x = ap (λ (m : ℕ). get_or hs m 0) (sym (add-zero k)) ∙ are 0 (omega arith) in
        let later : spread_from hs (k + 1) xs ≡ map (λ (n : ℕ). cond (eqb n 0) 0 (f n)) xs = others (k + 1) (omega arith) (λ j h. ap (λ (m : ℕ). get_or hs m 0) (shifted j) ∙ are (suc j) (omega arith)) in
        rw (low, mul-one (get_or hs k 0), here, later)
      where
        shifted : (j : ℕ) → k + 1 + j ≡ k + suc j
        shifted j = omega arith

-- the stars gathered from items, homed and given back
pub items-homed : (g : Geometry) (ns block hs d : List ℕ) (to stars items : ℕ) → items ≤ length ns → stars ≤ 32
    → stars ≡ length (star_numbers (take items ns)) → take stars block ≡ star_numbers (take items ns) → take stars hs ≡ map (home_under g) (take stars block)
    → paste d to (spread_from hs 0 (take items ns)) items ≡ paste d to (homes_of g.parameters g.growth ns) items
unfolding homes_of
items-homed g ns block hs d to stars items h most counted taken homes =
    ap (λ (l : List ℕ). take to d ++ l ++ drop (to + items) d)
    (take_all items (spread_from hs 0 (take items ns)) (omega (arith, spread-length hs 0 (take items ns), length-take-le items ns h))
    ∙ spread-homes (home_under g) hs 0 (take items ns) (omega (arith, counted)) found
    ∙ sym (map-take (home_in g.parameters g.growth) items ns))
  where
    front : take (length (star_numbers (take items ns))) hs ≡ map (home_under g) (take (length (star_numbers (take items ns))) (star_numbers (take items ns)))
    front = rw (take-length (star_numbers (take items ns)), ← counted) (homes ∙ ap (map (home_under g)) taken)

    found : (j : ℕ) → j < length (star_numbers (take items ns)) → get_or hs (0 + j) 0 ≡ home_under g (get_or (star_numbers (take items ns)) j 0)
    found j l = rw (zero-add j) (item-at (home_under g) (star_numbers (take items ns)) hs (length (star_numbers (take items ns))) j (le_refl (length (star_numbers (take items ns)))) l front)
