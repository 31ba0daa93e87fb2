-- A page by itself: where its stored separator is 2^k − 1 the reach of a star homed there is that page alone, if the star has room on it.
use mathlib.Core.Path.{◌≡◌, refl, sym, ap, ◌∙◌}
use mathlib.Core.Bool.{Bool, true, not}
use mathlib.Core.List.{List, [], ◌∷◌, map, append-nil, Memᴰ}
use Prim.Native.Nat.{ℕ, zero, suc, ◌*◌, ◌≤◌, ◌<◌}
use native.Mathlib.Nat.{zero-add}
use native.Mathlib.Decide.{dec_lt}
use native.Mathlib.Omega.{arith}
use lib.ListN.{length, take, drop, get_or}
use lib.Seq.{drop-cons}
use borrow.Author.Tests.{le-leb}
use Rattle.hashing.specs.declared.Parameters.{Parameters}
use Rattle.hashing.specs.declared.Growth.{Growth}
use Rattle.hashing.specs.Geometry.{multiplier_of}
use Rattle.hashing.specs.Home.{home}
use Rattle.hashing.specs.Limits.{valid_parameters}
use Rattle.pages.specs.Position.{valid_word}
use Rattle.pages.proofs.Parts.{page-fits}
use Rattle.placement.specs.Rule.{Star, Hash, separators, filter, below, passing, separator_of, contents_of, onward, pages, left, first}
use Rattle.placement.specs.File.{File, stars_at, gathered, column, replaced}
use Rattle.placement.specs.Shape.{Sized}
use Rattle.placement.specs.Hash.{hash_of, sound_at, named_page_lem, lent}
use Rattle.placement.proofs.Filters.{filter-all-on, filter-none-on}
use Rattle.placement.proofs.Order.{rising-sorted, pour-nil}
use Rattle.placement.proofs.Separator.{Bounded, probes, below_top, probing-top, top_all}
use Rattle.placement.proofs.Standing.{first_home, past_top}
use Rattle.buffers.specs.Lists.{padded, written}
use Rattle.buffers.proofs.Written.{written_same}
use Rattle.placement.proofs.Files.{number_of, word_of, owner_of}
use Rattle.placement.proofs.Sound.{Sound, sound-rising}
use Rattle.placement.proofs.Tested.{real_facts}
use Rattle.placement.proofs.Probing.{bounded-real}
use Rattle.reach.specs.Reach.{first_such, first_unsound_lem}
use Rattle.page_edit.specs.Shift.{Ordered}

-- the rule over one page

module _ (H : Hash) (b : Bounded H) (p : ℕ) (w : List Star) (homed : (s : Star) → Memᴰ s w → H.home s.number ≤ p) (few : length w ≤ H.room) where
  all-probe : filter (probes H p) w ≡ w
  all-probe = filter-all-on (probes H p) w (λ s m. le-leb (H.home s.number) p (homed s m))

  top-fits : separator_of H p w ≡ H.top
  top-fits = probing-top H b p w (rw all-probe few)

  -- all its stars stay, under the separator 2^k − 1
  pub pages-alone : pages H p 1 w ≡ record { separator = H.top; stars = w } ∷ []
  unfolding pages contents_of
  pages-alone = λ i. record { separator = top-fits i; stars = (top_all H b p w top-fits ∙ all-probe) i } ∷ []

  pub left_alone : left H p 1 w ≡ []
  unfolding left onward passing
  left_alone =
      filter-none-on (λ (s : Star). not (below H p (separator_of H p w) s.number)) w
      (λ s m. rw (top-fits, below_top H b p s.number, le-leb (H.home s.number) p (homed s m)))

-- a home as the code has it
pub home-start : (p : Parameters) (g : Growth) (k : ℕ) → home (multiplier_of p) p g k ≡ (hash_of p g).home k
unfolding hash_of
home-start p g k = refl

pub first-here : (test : ℕ → Bool) (from n : ℕ) → test from ≡ true → first_such test from n ≡ from
unfolding first_such
first-here test from zero e = refl
first-here test from (suc n) e = rw e

-- a page of the file

-- the file with one page's stars in the place of its own, under the separator that it has
pub file-alone : (b : ℕ) (f : File) (page top : ℕ) (stars : List Star) (ns ws os : List ℕ) → page < length f.separators → get_or f.separators page 0 ≡ top
    → ns ≡ written (page * b) (padded b (map number_of stars)) f.numbers → ws ≡ written (page * b) (padded b (map word_of stars)) f.words
    → os ≡ written (page * b) (padded b (map owner_of stars)) f.owners
    → lent f.separators ns ws os ≡ replaced b f page (record { separator = top; stars = stars } ∷ [])
unfolding replaced separators column
file-alone b f page top stars ns ws os h e en ew eo =
    λ i. record {
      separators = kept i;
      numbers = other number_of f.numbers ns en i;
      words = other word_of f.words ws ew i;
      owners = other owner_of f.owners os eo i;
    }
  where
    one : take 1 (drop page f.separators) ≡ top ∷ []
    one = ap (take 1) (drop-cons f.separators page 0 h) ∙ ap (λ (v : ℕ). v ∷ []) e

    kept : f.separators ≡ written page (separators (record { separator = top; stars = stars } ∷ [])) f.separators
    kept = sym (ap (λ (l : List ℕ). written page l f.separators) (sym one) ∙ written_same page 1 f.separators (omega arith))

    other : (g : Star → ℕ) (l m : List ℕ) → m ≡ written (page * b) (padded b (map g stars)) l → m ≡ written (page * b) (column b g (record { separator = top; stars = stars } ∷ [])) l
    other g l m d = d ∙ ap (λ (x : List ℕ). written (page * b) x l) (sym (append-nil (padded b (map g stars))))

module _ (p : Parameters) (g : Growth) (f : File) (sized : Sized p.places p.pages f) (page : ℕ) (inside : page < p.pages) where
  -- a star homed on a page whose separator is 2^k − 1 has that page named
  pub named-home : valid_parameters p ≡ true → (k : ℕ) → (hash_of p g).home k ≡ page → get_or f.separators page 0 ≡ (hash_of p g).top → named_page_lem p g f.separators k ≡ page
  unfolding named_page_lem
  named-home valid k e top = go (dec_lt page named)
    where
      named : ℕ
      named = first (hash_of p g) 0 f.separators k

      go : Dec (page < named) → named ≡ page
      go (yes h) =
          absurd (omega (arith, e, zero-add page, past_top (hash_of p g) (bounded-real p g valid) 0 page f.separators k (omega (arith, sized.of_separators)) top (omega (arith, zero-add page))))
      go (no h) =
          omega (arith, e, first_home (hash_of p g) 0 f.separators k (omega (arith, sized.of_separators, zero-add (length f.separators))))

  module _ (sound : sound_at p g f page ≡ true) where
    facts : Sound valid_word (hash_of p g) f page
    facts = real_facts p g f page sound

    pub ordered-page : Ordered p.places page f.numbers f.words f.owners
    unfolding hash_of
    ordered-page =
        record {
          in_numbers = page-fits p.places p.pages page inside sized.of_numbers;
          in_words = page-fits p.places p.pages page inside sized.of_words_lem;
          in_owners = page-fits p.places p.pages page inside sized.of_owners;
          in_order_lem = facts.in_order_lem;
        }

    pub homed-here : (s : Star) → Memᴰ s (stars_at (hash_of p g).room f page) → (hash_of p g).home s.number ≤ page
    homed-here s m =
        let here = facts.here s m in
        omega (arith, here, first_home (hash_of p g) 0 f.separators s.number (omega (arith, here, sized.of_separators, zero-add (length f.separators))))

    pub gathered-alone : gathered (hash_of p g).room f page 1 ≡ stars_at (hash_of p g).room f page
    unfolding gathered
    gathered-alone = pour-nil 1 (stars_at (hash_of p g).room f page) (rising-sorted 1 (stars_at (hash_of p g).room f page) (sound-rising valid_word (hash_of p g) f page facts))

    pub unsound-alone : first_unsound_lem p g f page 1 ≡ suc page
    unfolding first_unsound_lem first_such
    unsound-alone = rw sound
