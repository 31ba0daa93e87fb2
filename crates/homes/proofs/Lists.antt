-- The laws of lists by their places.
use mathlib.Core.Path.{◌≡◌, ◌∙◌, refl, sym, ap}
use mathlib.Core.List.{List, [], ◌∷◌, ◌++◌, map, append-nil}
use Prim.Native.Nat.{ℕ, zero, suc, ◌+◌, ◌-◌, ◌*◌, ◌/◌, ◌%◌, ◌≤◌, ◌<◌}
use native.Mathlib.Nat.{not-suc-le-zero}
use native.Mathlib.Decide.{dec_lt}
use native.Mathlib.Numerals.{add-one}
use native.Mathlib.Omega.{arith}
use lib.ListN.{length, replicate, get_or, take, drop, set, length-append, length-drop, get_or-append, get_or-map, length-map}
use lib.Seq.{drop-cons, drop-length, take-length, set_at, append_snoc, get_or_at, get_or-append-add, get_or-take, get_or-drop, ext_get_or, length-take-le, paste, take-paste, drop-paste, length-paste}
use borrow.Rule.Slice.PartMut.{put_mid}
use Rattle.std.proofs.lemmas.Slice.{put_mid-paste}
use Rattle.homes.specs.Lanes.{block_at, Blocks}
use Rattle.homes.specs.Indexed.{lanes}

pub lanes-length : (n : ℕ) (f : ℕ → ℕ) → length (lanes n f) ≡ n
unfolding lanes
lanes-length zero f = refl
lanes-length (suc n) f = rw (length-append (lanes n f) (f n ∷ []), lanes-length n f) (omega arith)

-- one place of the list, whatever stands past the end
pub lane_or : (n : ℕ) (f : ℕ → ℕ) (i d : ℕ) → i < n → get_or (lanes n f) i d ≡ f i
unfolding lanes
lane_or zero f i d h = absurd (not-suc-le-zero h)
lane_or (suc n) f i d h = go (dec_lt i n) (lane_or n f i d)
  where
    go : Dec (i < n) → (i < n → get_or (lanes n f) i d ≡ f i) → get_or (lanes n f ++ (f n ∷ [])) i d ≡ f i
    go (yes b) below = get_or-append (lanes n f) (f n ∷ []) d i (rw (lanes-length n f) b) ∙ below b
    go (no c) below =
        let e : i ≡ n = omega arith in
        rw e (get_or_at (lanes n f) (f n) [] d n (lanes-length n f))

pub lane : (n : ℕ) (f : ℕ → ℕ) (i : ℕ) → i < n → get_or (lanes n f) i 0 ≡ f i
lane n f i h = lane_or n f i 0 h

pub lanes-same : (n : ℕ) (f g : ℕ → ℕ) → ((i : ℕ) → i < n → f i ≡ g i) → lanes n f ≡ lanes n g
unfolding lanes
lanes-same zero f g h = refl
lanes-same (suc n) f g h = rw (lanes-same n f g (λ i l. h i (omega arith)), h n (omega arith))

-- a list of n places by its places
pub lanes-map : (f : ℕ → ℕ) (n : ℕ) (l : List ℕ) → length l ≡ n → lanes n (λ i. f (get_or l i 0)) ≡ map f l
lanes-map f n l e = ext_get_or (f 0) (lanes n (λ i. f (get_or l i 0))) (map f l) sizes (λ i h. at i (rw (lanes-length n (λ i. f (get_or l i 0))) at h))
  where
    sizes : length (lanes n (λ i. f (get_or l i 0))) ≡ length (map f l)
    sizes = rw (lanes-length n (λ i. f (get_or l i 0)), length-map l f, e)

    at : (i : ℕ) → i < n → get_or (lanes n (λ i. f (get_or l i 0))) i (f 0) ≡ get_or (map f l) i (f 0)
    at i h = lane_or n (λ i. f (get_or l i 0)) i (f 0) h ∙ sym (get_or-map f l i 0)

-- a loop that fills a list place by place: before the first turn, after one more, after the last
pub lane-none : (f : ℕ → ℕ) (l : List ℕ) → l ≡ lanes 0 f ++ drop 0 l
unfolding lanes
lane-none f l = refl

pub lane-next : (f : ℕ → ℕ) (l₀ l : List ℕ) (i v : ℕ) → i < length l₀ → l ≡ lanes i f ++ drop i l₀ → v ≡ f i → set l i v ≡ lanes (i + 1) f ++ drop (i + 1) l₀
unfolding lanes
lane-next f l₀ l i v h e w =
    rw (add-one i, e, drop-cons l₀ i 0 h, set_at (lanes i f) (get_or l₀ i 0) (drop (suc i) l₀) v i (lanes-length i f), w)
    (sym (append_snoc (lanes i f) (f i) (drop (suc i) l₀)))

pub lane-unread : (f : ℕ → ℕ) (l₀ l : List ℕ) (i : ℕ) → i < length l₀ → l ≡ lanes i f ++ drop i l₀ → get_or l i 0 ≡ get_or l₀ i 0
lane-unread f l₀ l i h e = rw (e, drop-cons l₀ i 0 h) (get_or_at (lanes i f) (get_or l₀ i 0) (drop (suc i) l₀) 0 i (lanes-length i f))

pub lane-end : (f : ℕ → ℕ) (l₀ l : List ℕ) (n : ℕ) → length l₀ ≡ n → l ≡ lanes n f ++ drop n l₀ → l ≡ lanes n f
lane-end f l₀ l n s e = e ∙ rw (← s, drop-length l₀) (append-nil (lanes (length l₀) f))

-- what holds of each place filled
pub lane-more : (holds : ℕ → Type 0) (f : ℕ → ℕ) (i : ℕ) → ((j : ℕ) → j < i → holds (f j)) → holds (f i) → (j : ℕ) → j < i + 1 → holds (f j)
lane-more holds f i old new j h = go (dec_lt j i)
  where
    go : Dec (j < i) → holds (f j)
    go (yes b) = old j b
    go (no c) =
        let e : j ≡ i = omega arith in
        rw e new

-- a block of a page

-- from `at` on, the blocks of l are those of l₀
abbrev pub Kept : ℕ → List ℕ → List ℕ → Type 0
Kept at l l₀ = (b : ℕ) → b % 8 ≡ 0 → at ≤ b → block_at l b ≡ block_at l₀ b

pub lanes-list : (n : ℕ) (l : List ℕ) → length l ≡ n → lanes n (λ i. get_or l i 0) ≡ l
lanes-list n l e = ext_get_or 0 (lanes n (λ i. get_or l i 0)) l (rw (lanes-length n (λ i. get_or l i 0), e)) (λ i h. lane n (λ i. get_or l i 0) i (rw (lanes-length n (λ i. get_or l i 0)) at h))

module _ (l : List ℕ) (at : ℕ) where
  pub part-lane : (i : ℕ) → i < 8 → get_or (block_at l at) i 0 ≡ get_or l (at + i) 0
  unfolding block_at
  part-lane i h = lane 8 (λ i. get_or l (at + i) 0) i h

  pub part_length : length (block_at l at) ≡ 8
  unfolding block_at
  part_length = lanes-length 8 (λ i. get_or l (at + i) 0)

get_d_past : (p q : List ℕ) (n i : ℕ) → length p ≡ n → get_or (p ++ q) (n + i) 0 ≡ get_or q i 0
get_d_past p q n i e = rw (← e) (get_or-append-add p q i 0)

-- a block lent as a part of the list
pub lent-block : (l : List ℕ) (at : ℕ) {block : List ℕ} → block ≡ take (at + 8 - at) (drop at l) → length block ≡ 8 → block ≡ block_at l at
unfolding block_at
lent-block l at {block} e size =
    sym (lanes-list 8 block size)
    ∙ lanes-same 8 (λ i. get_or block i 0) (λ i. get_or l (at + i) 0) (λ i h. rw (e, get_or-take (at + 8 - at) (drop at l) i 0 (omega arith), get_or-drop at l i 0))

-- a block copied from there
pub copied-block : (l : List ℕ) (at : ℕ) {block : List ℕ} → block ≡ paste (replicate 8 0) 0 (drop at l) 8 → at + 8 ≤ length l → block ≡ block_at l at
copied-block l at {block} e fits =
    let room : 8 ≤ length (drop at l) = rw (length-drop at l) (omega arith) in
    let long : length block ≡ 8 = ap length e ∙ length-paste (replicate 8 0) 0 (drop at l) 8 (omega arith) room in
    let whole : take 8 block ≡ block = ap (λ (n : ℕ). take n block) (sym long) ∙ take-length block in
    let same : block ≡ take 8 (drop at l) = sym whole ∙ ap (take 8) e ∙ take-paste (replicate 8 0) 0 (drop at l) 8 (omega arith) room in
    let eight : 8 ≡ at + 8 - at = omega arith in
    lent-block l at (same ∙ ap (λ (n : ℕ). take n (drop at l)) eight) long

-- a block stored
module _ (l block : List ℕ) (at : ℕ) (fits : at + 8 ≤ length l) (eight : length block ≡ 8) where
  head : length (take at l) ≡ at
  head = length-take-le at l (omega arith)

  low : (j : ℕ) → j < at + 8 → get_or (paste l at block 8) j 0 ≡ get_or (take at l ++ take 8 block) j 0
  low j h =
      sym (get_or-take (at + 8) (paste l at block 8) j 0 h)
      ∙ ap (λ (r : List ℕ). get_or r j 0) (take-paste l at block 8 (omega arith) (omega arith))

  below : (j : ℕ) → j < at → get_or (paste l at block 8) j 0 ≡ get_or l j 0
  below j h = low j (omega arith) ∙ get_or-append (take at l) (take 8 block) 0 j (rw head h) ∙ get_or-take at l j 0 h

  inside : (i : ℕ) → i < 8 → get_or (paste l at block 8) (at + i) 0 ≡ get_or block i 0
  inside i h = low (at + i) (omega arith) ∙ get_d_past (take at l) (take 8 block) at i head ∙ get_or-take 8 block i 0 h

  past : (k : ℕ) → get_or (paste l at block 8) (at + 8 + k) 0 ≡ get_or l (at + 8 + k) 0
  past k =
      sym (get_or-drop (at + 8) (paste l at block 8) k 0)
      ∙ ap (λ (r : List ℕ). get_or r k 0) (drop-paste l at block 8 (omega arith) (omega arith))
      ∙ get_or-drop (at + 8) l k 0

  above : (j : ℕ) → at + 8 ≤ j → get_or (paste l at block 8) j 0 ≡ get_or l j 0
  above j h =
      let e : at + 8 + (j - (at + 8)) ≡ j = omega arith in
      rw e at (past (j - (at + 8)))

  part-stored : block_at (paste l at block 8) at ≡ block
  unfolding block_at
  part-stored = lanes-same 8 (λ i. get_or (paste l at block 8) (at + i) 0) (λ i. get_or block i 0) inside ∙ lanes-list 8 block eight

  part-below : (b : ℕ) → b + 8 ≤ at → block_at (paste l at block 8) b ≡ block_at l b
  unfolding block_at
  part-below b h = lanes-same 8 (λ i. get_or (paste l at block 8) (b + i) 0) (λ i. get_or l (b + i) 0) (λ i c. below (b + i) (omega arith))

  part-above : (b : ℕ) → at + 8 ≤ b → block_at (paste l at block 8) b ≡ block_at l b
  unfolding block_at
  part-above b h = lanes-same 8 (λ i. get_or (paste l at block 8) (b + i) 0) (λ i. get_or l (b + i) 0) (λ i c. above (b + i) (omega arith))

  -- a loop over the blocks: what holds of those stored, and that the others stay
  module _ (start : at % 8 ≡ 0) where
    pub blocks_more :
        (holds : ℕ → List ℕ → Type 0) → Blocks at (λ b. holds b (block_at l b)) → holds at block →
        Blocks (at + 8) (λ b. holds b (block_at (paste l at block 8) b))
    blocks_more holds old new b m h = go (dec_lt b at)
      where
        go : Dec (b < at) → holds b (block_at (paste l at block 8) b)
        go (yes c) = rw (part-below b (omega arith)) (old b m c)
        go (no c) =
            let e : b ≡ at = omega arith in
            rw (e, part-stored) new

    pub blocks-rest : (l₀ : List ℕ) → Kept at l l₀ → Kept (at + 8) (paste l at block 8) l₀
    blocks-rest l₀ old b m h = part-above b h ∙ old b m (omega arith)

module _ (l l' block : List ℕ) (at : ℕ) (start : at % 8 ≡ 0) (fits : at + 8 ≤ length l) (eight : length block ≡ 8) (stored : l' ≡ paste l at block 8) where
  pub blocks-next : (holds : ℕ → List ℕ → Type 0) → Blocks at (λ b. holds b (block_at l b)) → holds at block → Blocks (at + 8) (λ b. holds b (block_at l' b))
  blocks-next holds old new b m h = rw stored (blocks_more l block at fits eight start holds old new b m h)

  pub blocks-kept : (l₀ : List ℕ) → Kept at l l₀ → Kept (at + 8) l' l₀
  blocks-kept l₀ old b m h = rw stored (blocks-rest l block at fits eight start l₀ old b m h)

-- a block stored by a copy into a part of the list
module _ (l : List ℕ) (at : ℕ) {part block : List ℕ} (same : part ≡ block) (eight : length block ≡ 8) where
  pub stored-block : put_mid at (at + 8 - at) l part ≡ paste l at block 8
  stored-block = put_mid-paste at (at + 8 - at) l part block 8 same (omega arith) (omega (arith, eight))

  pub stored-length : at + 8 ≤ length l → length (put_mid at (at + 8 - at) l part) ≡ length l
  stored-length fits = ap length stored-block ∙ length-paste l at block 8 fits (omega (arith, eight))

-- the blocks together, read place by place
pub blocks-map :
    (f : ℕ → ℕ) (numbers pages : List ℕ) (places : ℕ) → places ≤ length numbers → places ≤ length pages →
    Blocks places (λ at. (i : ℕ) → i < 8 → get_or (block_at pages at) i 0 ≡ f (get_or numbers (at + i) 0)) →
    take places pages ≡ map f (take places numbers)
blocks-map f numbers pages places hn hp each =
    sym (lanes-list places (take places pages) (length-take-le places pages hp))
    ∙ lanes-same places (λ i. get_or (take places pages) i 0) (λ i. f (get_or (take places numbers) i 0)) one
    ∙ lanes-map f places (take places numbers) (length-take-le places numbers hn)
  where
    one : (i : ℕ) → i < places → get_or (take places pages) i 0 ≡ f (get_or (take places numbers) i 0)
    one i h =
        let split : 8 * (i / 8) + i % 8 ≡ i = omega arith in
        let found : get_or pages (8 * (i / 8) + i % 8) 0 ≡ f (get_or numbers (8 * (i / 8) + i % 8) 0) = sym (part-lane pages (8 * (i / 8)) (i % 8) (omega arith)) ∙ each (8 * (i / 8)) (omega arith) (omega arith) (i % 8) (omega arith) in
        get_or-take places pages i 0 h
        ∙ rw split at found
        ∙ ap f (sym (get_or-take places numbers i 0 h))
