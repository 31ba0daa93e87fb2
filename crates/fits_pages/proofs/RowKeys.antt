-- Keys of rows, block by block.
use mathlib.Core.Path.{◌≡◌, refl, sym, ap, ◌∙◌}
use mathlib.Core.Bool.{true}
use mathlib.Core.List.{List, [], ◌∷◌, map}
use Prim.Native.Nat.{ℕ, zero, suc, ◌+◌, ◌*◌, ◌/◌, ◌%◌, ◌^◌, ◌≤◌, ◌<◌}
use native.Mathlib.Nat.{add-zero, add-suc, suc-add, zero-add}
use native.Mathlib.Numerals.{add-one}
use native.Mathlib.Omega.{arith}
use lib.Dec.{ltb}
use lib.ListN.{length, get_or, set, take, drop, length-map, length-take}
use lib.Seq.{paste, take_all, take-paste, length-take-le}
use borrow.Author.Tests.{lt-ltb}
use Rattle.buffers.proofs.Copies.{Copied, turn}
use Rattle.buffers.proofs.Lists.{map-take, map-drop, map-item}
use Rattle.reach.proofs.Pastes.{paste_more}
use Rattle.hashing.specs.declared.Geometry.{Geometry}
use Rattle.hashing.specs.Limits.{valid_parameters, valid_growth}
use Rattle.placement.specs.Hash.{hash_of}
use Rattle.placement.specs.Shape.{home_under}
use Rattle.placement.proofs.Probing.{homed-real}
use Rattle.page_separator.specs.Lists.{all_below}
use Rattle.page_separator.proofs.Lists.{all-items}
use Rattle.page_plan.specs.Keys.{star_key_lem, Keyed}
use Rattle.fits_pages.specs.Columns.{numbers_read, homes_read, keys_from, row_keys}
use Rattle.fits_pages.proofs.ReadColumns.{numbers_long}

pub length-keys : (at : ℕ) (hs : List ℕ) → length (keys_from at hs) ≡ length hs
unfolding keys_from
length-keys at [] = refl
length-keys at (h ∷ hs) = ap suc (length-keys (suc at) hs)

pub key-at : (at : ℕ) (hs : List ℕ) (j : ℕ) → j < length hs → get_or (keys_from at hs) j 0 ≡ star_key_lem (get_or hs j 0) (suc (at + j))
unfolding keys_from
key-at at [] j h = absurd (omega arith)
key-at at (x ∷ hs) zero h = let e : suc at ≡ suc (at + 0) = omega arith in ap (star_key_lem x) e
key-at at (x ∷ hs) (suc j) h = let e : suc (suc at + j) ≡ suc (at + suc j) = omega arith in key-at (suc at) hs j (omega arith) ∙ ap (star_key_lem (get_or hs j 0)) e

pub keys_turn : (keys₀ keys hs : List ℕ) (first i x : ℕ) → first + i < length keys₀ → i < length hs → x ≡ get_or hs i 0 * 65536 + (first + i + 1)
    → Copied keys₀ first (keys_from first hs) keys i → Copied keys₀ first (keys_from first hs) (set keys (first + i) x) (i + 1)
unfolding star_key_lem
keys_turn keys₀ keys hs first i x h k e c =
    let same : get_or hs i 0 * 65536 + (first + i + 1) ≡ get_or hs i 0 * 2 ^ 16 + suc (first + i) = omega arith in
    turn keys₀ first (keys_from first hs) keys i x h (omega (arith, length-keys first hs)) (e ∙ same ∙ sym (key-at first hs i k)) c

take-keys : (n at : ℕ) (hs : List ℕ) → take n (keys_from at hs) ≡ keys_from at (take n hs)
unfolding keys_from
take-keys zero at hs = refl
take-keys (suc n) at [] = refl
take-keys (suc n) at (h ∷ hs) = ap (λ (l : List ℕ). star_key_lem h (suc at) ∷ l) (take-keys n (suc at) hs)

drop-keys : (n at : ℕ) (hs : List ℕ) → drop n (keys_from at hs) ≡ keys_from (at + n) (drop n hs)
unfolding keys_from
drop-keys zero at hs = rw (add-zero at)
drop-keys (suc n) at [] = refl
drop-keys (suc n) at (h ∷ hs) = let e : suc at + n ≡ at + suc n = omega arith in drop-keys n (suc at) hs ∙ ap (λ (k : ℕ). keys_from k (drop n hs)) e

-- as many homes as numbers
pub homes-count : (g : Geometry) (ns hs : List ℕ) (n : ℕ) → n ≤ length ns → take n hs ≡ map (home_under g) (take n ns) → n ≤ length hs
homes-count g ns hs n h e = omega (arith, ap length e, length-map (take n ns) (home_under g), length-take-le n ns h, length-take n hs)

module _ (g : Geometry) (given : List ℕ) (n : ℕ) where
  pub homes-long : length (homes_read g given n) ≡ n
  homes-long = length-map (numbers_read given n) (home_under g) ∙ numbers_long given n

  pub row_keys_long : length (row_keys g given n) ≡ n
  row_keys_long = length-keys 0 (homes_read g given n) ∙ homes-long

  -- a block's keys are those of its rows
  block-keys : (first count : ℕ) (block homes : List ℕ) → take count homes ≡ map (home_under g) (take count block)
      → take count block ≡ take count (drop first (numbers_read given n)) → take count (keys_from first homes) ≡ take count (drop first (row_keys g given n))
  block-keys first count block homes eh eb =
      take-keys count first homes
      ∙ ap (keys_from first) (eh ∙ ap (map (home_under g)) eb ∙ sym (map-take (home_under g) count (drop first (numbers_read given n))) ∙ ap (take count) (sym (map-drop (home_under g) first (numbers_read given n))))
      ∙ sym (take-keys count first (drop first (homes_read g given n)))
      ∙ ap (λ (k : ℕ). take count (keys_from k (drop first (homes_read g given n)))) (sym (zero-add first))
      ∙ ap (take count) (sym (drop-keys first 0 (homes_read g given n)))

  pub keys_next : (keys₀ keys keys' : List ℕ) (first count : ℕ) (block homes : List ℕ) → first + count ≤ n → n ≤ length keys₀
      → take count homes ≡ map (home_under g) (take count block) → take count block ≡ take count (drop first (numbers_read given n))
      → Copied keys₀ 0 (row_keys g given n) keys first → keys' ≡ paste keys first (keys_from first homes) count → length keys' ≡ length keys
      → Copied keys₀ 0 (row_keys g given n) keys' (first + count)
  keys_next keys₀ keys keys' first count block homes h k eh eb c e l =
      record {
        is =
            e
            ∙ ap (λ (x : List ℕ). paste x first (keys_from first homes) count) c.is
            ∙ ap (λ (x : ℕ). paste (paste keys₀ 0 (row_keys g given n) first) x (keys_from first homes) count) (sym (zero-add first))
            ∙ paste_more keys₀ 0 (row_keys g given n) first (keys_from first homes) count (omega arith) (omega (arith, row_keys_long)) (block-keys first count block homes eh eb);
        kept = l ∙ c.kept;
      }

  -- the first keys of the list are the rows'
  pub keys_front : (keys₀ keys : List ℕ) → n ≤ length keys₀ → keys ≡ paste keys₀ 0 (row_keys g given n) n → take n keys ≡ row_keys g given n
  keys_front keys₀ keys h e =
      ap (take n) e
      ∙ ap (λ (k : ℕ). take k (paste keys₀ 0 (row_keys g given n) n)) (sym (zero-add n))
      ∙ take-paste keys₀ 0 (row_keys g given n) n (omega arith) (omega (arith, row_keys_long))
      ∙ take_all n (row_keys g given n) (omega (arith, row_keys_long))

  module _ (valid : valid_parameters g.parameters ≡ true) (growth : valid_growth g.parameters g.growth ≡ true) (few : n ≤ 32768) where
    below : (i : ℕ) → i < n → get_or (row_keys g given n) i 0 < g.parameters.pages * 2 ^ 16
    unfolding star_key_lem hash_of
    below i h =
        let home : get_or (homes_read g given n) i 0 < g.parameters.pages
        = rw (map-item (home_under g) (numbers_read given n) i (omega (arith, numbers_long given n))) (homed-real g.parameters g.growth valid growth (get_or (numbers_read given n) i 0)) in
        rw (key-at 0 (homes_read g given n) i (omega (arith, homes-long))) (omega arith)

    pub rows-keyed : (keys : List ℕ) → 0 < g.parameters.pages → g.parameters.pages ≤ 1024 → n ≤ length keys → take n keys ≡ row_keys g given n → Keyed g.parameters.pages n keys
    rows-keyed keys some most inside e =
        record {
          some = some;
          most = most;
          inside = inside;
          few = few;
          within =
              rw e
              (all-items (λ x. ltb x (g.parameters.pages * 2 ^ 16)) (row_keys g given n)
              (λ i h. lt-ltb (get_or (row_keys g given n) i 0) (g.parameters.pages * 2 ^ 16) (below i (omega (arith, row_keys_long)))));
        }
