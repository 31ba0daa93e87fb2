-- Files whose pages from lo on are the same: what stands there, and pages written there as they stand.
use mathlib.Core.Path.{◌≡◌, refl, sym, ap, ◌∙◌}
use mathlib.Core.Bool.{Bool, not, ◌&&◌, ◌||◌}
use mathlib.Core.List.{List, [], ◌∷◌, Memᴰ, map}
use Prim.Native.Nat.{ℕ, zero, suc, ◌+◌, ◌-◌, ◌*◌, ◌≤◌, ◌<◌}
use native.Mathlib.Nat.{zero-add, zero-mul, suc-mul, add-mul, mul-le-mul_right}
use native.Mathlib.Omega.{arith}
use lib.Dec.{leb, ltb, eqb}
use lib.ListN.{length, take, drop, get_or}
use lib.Seq.{get_or-drop, drop-drop, take-take}
use Rattle.buffers.specs.Lists.{written}
use Rattle.buffers.proofs.Lists.{drop-take, map-take, map-drop}
use Rattle.buffers.proofs.Written.{written_same, taken-written, written_behind, alike-later}
use Rattle.pages.specs.Page.{part}
use Rattle.pages.specs.Shape.{stretch}
use Rattle.placement.specs.Rule.{Star, Hash, Contents, separators, pages, filter}
use Rattle.placement.specs.File.{File, stars_at, contents_at, pages_at, gathered, column, replaced}
use Rattle.placement.specs.Shape.{Sized}
use Rattle.placement.proofs.Order.{rising-sorted, pour-nil}
use Rattle.placement.proofs.Separator.{Bounded}
use Rattle.placement.proofs.Standing.{first_home, length-separators}
use Rattle.placement.proofs.Writing.{Roomy, length-column}
use Rattle.placement.proofs.Files.{number_of, word_of, owner_of}
use Rattle.placement.proofs.Sound.{Sound, sound-rising, length-stars_at}
use Rattle.page_edit.proofs.OnePage.{pages-alone}
use Rattle.clean_test.specs.Raising.{passed, counts_on, count_on, count_from, raisable_from}
use Rattle.growth_in_place.specs.Blocks.{AlikeFrom}

module _ (b : ℕ) where
  pub alike_next : (lo : ℕ) (f g : File) → AlikeFrom b lo f g → AlikeFrom b (suc lo) f g
  alike_next lo f g a =
      let more : lo * b ≤ suc lo * b = omega (arith, suc-mul lo b) in
      record {
        separators = alike-later lo (suc lo) f.separators g.separators (omega arith) a.separators;
        numbers = alike-later (lo * b) (suc lo * b) f.numbers g.numbers more a.numbers;
        words = alike-later (lo * b) (suc lo * b) f.words g.words more a.words;
        owners = alike-later (lo * b) (suc lo * b) f.owners g.owners more a.owners;
      }

  pub gathered-alike : (lo n : ℕ) (f g : File) → AlikeFrom b lo f g → gathered b f lo n ≡ gathered b g lo n
  unfolding gathered stars_at part
  gathered-alike lo zero f g a = refl
  gathered-alike lo (suc n) f g a = rw (a.numbers, a.words, a.owners, gathered-alike (suc lo) n f g (alike_next lo f g a))

  pub separator_alike : (lo q : ℕ) (f g : File) → AlikeFrom b lo f g → lo ≤ q → get_or f.separators q 0 ≡ get_or g.separators q 0
  separator_alike lo q f g a h =
      let sum : lo + (q - lo) ≡ q = omega arith in
      rw (← sum, ← get_or-drop lo f.separators (q - lo) 0, ← get_or-drop lo g.separators (q - lo) 0, a.separators)

  -- the items of a page from lo on
  part-alike : (lo q : ℕ) (l m : List ℕ) → drop (lo * b) l ≡ drop (lo * b) m → lo ≤ q → part b q l ≡ part b q m
  unfolding part
  part-alike lo q l m e h = ap (take b) (alike-later (lo * b) (q * b) l m (mul-le-mul_right b h) e)

  -- of n pages from lo on
  pub part-within : (lo n q : ℕ) (l : List ℕ) → lo ≤ q → q < lo + n → part b q l ≡ part b (q - lo) (stretch b lo n l)
  unfolding part
  part-within lo n q l h k =
      let sum : lo * b + (q - lo) * b ≡ q * b = sym (add-mul lo (q - lo) b) ∙ ap (λ (j : ℕ). j * b) (omega arith) in
      let more : suc (q - lo) * b ≤ n * b = mul-le-mul_right b (omega arith) in
      sym (ap (take b) (drop-take ((q - lo) * b) (n * b) (drop (lo * b) l))
      ∙ take-take b (n * b - (q - lo) * b) (drop ((q - lo) * b) (drop (lo * b) l)) (omega (arith, more, suc-mul (q - lo) b))
      ∙ ap (take b) (drop-drop ((q - lo) * b) (lo * b) l ∙ ap (λ (j : ℕ). drop j l) sum))

  -- pages replaced below lo
  pub replaced-alike : (M lo : ℕ) (f : File) (cs : List Contents) → Sized b M f → Roomy b cs → length cs ≡ lo → AlikeFrom b lo (replaced b f 0 cs) f
  unfolding replaced
  replaced-alike M lo f cs z r e =
      record {
        separators = written_behind 0 lo (separators cs) f.separators (omega arith) (zero-add (length (separators cs)) ∙ length-separators cs ∙ e);
        numbers = other number_of f.numbers;
        words = other word_of f.words;
        owners = other owner_of f.owners;
      }
    where
      other : (h : Star → ℕ) (l : List ℕ) → drop (lo * b) (written (0 * b) (column b h cs) l) ≡ drop (lo * b) l
      other h l =
          written_behind (0 * b) (lo * b) (column b h cs) l (omega (arith, zero-mul b))
          (ap (λ (k : ℕ). k + length (column b h cs)) (zero-mul b)
          ∙ zero-add (length (column b h cs)) ∙ length-column b h cs r ∙ ap (λ (k : ℕ). k * b) e)

  -- what is written into l and leaves it as it is also leaves a list alike from there on
  still : (at n : ℕ) (s l m : List ℕ) → length s ≡ n → at + n ≤ length l → at + n ≤ length m → drop at m ≡ drop at l → written at s l ≡ l → written at s m ≡ m
  still at n s l m e hl hm a w =
      let there : s ≡ take n (drop at m) = sym (taken-written at n s l e (omega arith)) ∙ ap (λ (x : List ℕ). take n (drop at x)) w ∙ ap (take n) (sym a) in
      ap (λ (x : List ℕ). written at x m) there ∙ written_same at n m hm

  -- pages that f has from lo on
  pub replaced-still : (M lo : ℕ) (f g : File) (cs : List Contents) → Sized b M f → Sized b M g → AlikeFrom b lo f g → Roomy b cs → lo + length cs ≤ M
      → replaced b g lo cs ≡ g → replaced b f lo cs ≡ f
  unfolding replaced
  replaced-still M lo f g cs zf zg a r h e =
      λ i. record {
        separators = still lo (length cs) (separators cs) g.separators f.separators (length-separators cs) (omega (arith, zg.of_separators)) (omega (arith, zf.of_separators)) a.separators (ap (λ (x : File). x.separators) e) i;
        numbers = other number_of g.numbers f.numbers zg.of_numbers zf.of_numbers a.numbers (ap (λ (x : File). x.numbers) e) i;
        words = other word_of g.words f.words zg.of_words_lem zf.of_words_lem a.words (ap (λ (x : File). x.words) e) i;
        owners = other owner_of g.owners f.owners zg.of_owners zf.of_owners a.owners (ap (λ (x : File). x.owners) e) i;
      }
    where
      long : lo * b + length cs * b ≤ M * b
      long = rw (← add-mul lo (length cs) b) (mul-le-mul_right b h)

      other : (h : Star → ℕ) (l m : List ℕ) → length l ≡ M * b → length m ≡ M * b → drop (lo * b) m ≡ drop (lo * b) l
          → written (lo * b) (column b h cs) l ≡ l → written (lo * b) (column b h cs) m ≡ m
      other h l m el em d w = still (lo * b) (length cs * b) (column b h cs) l m (length-column b h cs r) (omega (arith, long)) (omega (arith, long)) d w

pub map-part : (h : ℕ → ℕ) (b q : ℕ) (l : List ℕ) → part b q (map h l) ≡ map h (part b q l)
unfolding part
map-part h b q l = ap (take b) (map-drop h (q * b) l) ∙ map-take h b (drop (q * b) l)

-- whether a separator from lo on could be one greater
module _ (H : Hash) (lo : ℕ) (f g : File) (a : AlikeFrom H.room lo f g) where
  count-on-alike : (p q : ℕ) → lo ≤ p → lo ≤ q → count_on H f.separators f.numbers p q ≡ count_on H g.separators g.numbers p q
  unfolding count_on counts_on passed
  count-on-alike p q h k =
      λ i. length
      (filter (λ (n : ℕ). not (eqb n 0) && (eqb q p || (leb (H.home n) p && (ltb p q && eqb (H.signature n p) (separator_alike H.room lo p f g a h i)))))
      (part-alike H.room lo q f.numbers g.numbers a.numbers k i))

  count-alike : (p n : ℕ) → lo ≤ p → count_from H f.separators f.numbers lo p n ≡ count_from H g.separators g.numbers lo p n
  unfolding count_from
  count-alike p zero h = refl
  count-alike p (suc n) h = rw (count-alike p n h, count-on-alike p (lo + n) h (omega arith))

  pub raisable-alike : (n p : ℕ) → lo ≤ p → raisable_from H lo n f.separators f.numbers p ≡ raisable_from H lo n g.separators g.numbers p
  unfolding raisable_from
  raisable-alike n p h = rw (separator_alike H.room lo p f g a h, count-alike p n h)

-- a sound page whose separator is 2^k − 1
module _ (ok : ℕ → Bool) (H : Hash) (bounded : Bounded H) (f : File) (M lo : ℕ) (sized : Sized H.room M f) (inside : lo < M) (sound : Sound ok H f lo) where
  homed-alone : (s : Star) → Memᴰ s (stars_at H.room f lo) → H.home s.number ≤ lo
  homed-alone s m =
      let here = sound.here s m in
      omega (arith, here, first_home H 0 f.separators s.number (omega (arith, here, sized.of_separators, zero-add (length f.separators))))

  gathered-one : gathered H.room f lo 1 ≡ stars_at H.room f lo
  unfolding gathered
  gathered-one = pour-nil 1 (stars_at H.room f lo) (rising-sorted 1 (stars_at H.room f lo) (sound-rising ok H f lo sound))

  few : length (stars_at H.room f lo) ≤ H.room
  few = length-stars_at ok H f M lo sized inside

  -- is what the rule gives its stars
  pub ruled-alone : get_or f.separators lo 0 ≡ H.top → pages H lo 1 (gathered H.room f lo 1) ≡ pages_at H.room f lo 1
  unfolding pages_at contents_at
  ruled-alone top =
      ap (pages H lo 1) gathered-one
      ∙ pages-alone H bounded lo (stars_at H.room f lo) homed-alone few
      ∙ ap (λ (v : ℕ). record { separator = v; stars = stars_at H.room f lo } ∷ []) (sym top)
