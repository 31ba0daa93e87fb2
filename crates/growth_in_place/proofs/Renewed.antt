-- The file when the blocks below page lo are placed anew.
use mathlib.Core.Path.{◌≡◌, sym, ap, ◌∙◌}
use mathlib.Core.Bool.{true}
use mathlib.Core.List.{List, [], map}
use Prim.Native.Nat.{ℕ, ◌+◌, ◌-◌, ◌*◌, ◌≤◌, ◌<◌}
use native.Mathlib.Nat.{zero-add, mul-le-mul_right}
use native.Mathlib.Omega.{arith}
use lib.ListN.{length, get_or, take, drop}
use borrow.Author.Tests.{eqb-true}
use Rattle.buffers.proofs.Lists.{map-take, map-drop}
use Rattle.buffers.proofs.Written.{written_none, alike-later}
use Rattle.hashing.specs.declared.Parameters.{Parameters}
use Rattle.hashing.specs.declared.Growth.{Growth}
use Rattle.hashing.specs.declared.Geometry.{Geometry}
use Rattle.generator.specs.Generator.{top_of_lem}
use Rattle.pages.specs.Shape.{stretch}
use Rattle.pages.specs.Position.{valid_word}
use Rattle.placement.specs.Rule.{Star, Hash, Contents, separators, pages, left}
use Rattle.placement.specs.File.{File, gathered, column, replaced}
use Rattle.placement.specs.Shape.{Sized}
use Rattle.placement.specs.Hash.{hash_of, sound_at}
use Rattle.placement.specs.Shape.{home_in, homes_of}
use Rattle.placement.specs.Ready.{Pooled}
use Rattle.placement.proofs.Composition.{length-pages}
use Rattle.placement.proofs.Writing.{Roomy}
use Rattle.placement.proofs.Files.{roomy-pages, replaced-add, sized-replaced}
use Rattle.placement.proofs.Sound.{AllSound}
use Rattle.placement.proofs.Probing.{bounded-real}
use Rattle.reach.specs.Reach.{first_such, first_unsound_lem, stored_top, all_stars}
use Rattle.reach.proofs.Search.{Such, such}
use Rattle.removal_reach.proofs.Items.{all_sound, real_sound}
use Rattle.growth_in_place.specs.Blocks.{Placeable, AlikeFrom, SoundBlock}
use Rattle.growth_in_place.proofs.JoinedBlocks.{Starts, nothing_left, pages-joined}
use Rattle.growth_in_place.proofs.Alike.{gathered-alike, separator_alike, replaced-alike}

-- a file of sound pages
module _ (p : Parameters) (g : Growth) (f : File) (sound : first_unsound_lem p g f 0 p.pages ≡ p.pages) where
  sound-at : (q : ℕ) → 0 ≤ q → q < 0 + p.pages → sound_at p g f q ≡ true
  sound-at = all_sound p g f 0 p.pages (omega (arith, sound))

  all-are-sound : AllSound valid_word (hash_of p g) f 0 p.pages
  all-are-sound = real_sound p g f 0 p.pages sound-at

  -- the rule carries nothing past the last page
  pub nothing-past : Sized p.places p.pages f → left (hash_of p g) 0 p.pages (all_stars p f) ≡ []
  unfolding hash_of
  nothing-past sized = nothing_left valid_word (hash_of p g) f p.pages 0 p.pages sized (omega arith) all-are-sound

-- the rule over the pages of f below lo
abbrev pub ruled_below : Geometry → File → ℕ → List Contents
ruled_below g f lo = pages (hash_of g.parameters g.growth) 0 lo (gathered g.parameters.places f 0 lo)

-- page lo starts a block, and the pool from its items on holds their homes
pub record Renewed (g : Geometry) (f F : File) (pool waiting poolowners : List ℕ) (lo : ℕ) : Type 0 where
  pub most : lo ≤ g.parameters.pages
  pub starts : lo < g.parameters.pages → Starts (hash_of g.parameters g.growth) f lo
  pub file : F ≡ replaced g.parameters.places f 0 (ruled_below g f lo)
  pub homes : drop (lo * g.parameters.places) pool ≡ drop (lo * g.parameters.places) (homes_of g.parameters g.growth f.numbers)
  pub pooled : Pooled g.parameters pool waiting poolowners

replaced-none : (b : ℕ) (f : File) → f ≡ replaced b f 0 []
unfolding replaced separators column
replaced-none b f =
    λ i. record {
      separators = written_none 0 f.separators i;
      numbers = written_none (0 * b) f.numbers i;
      words = written_none (0 * b) f.words i;
      owners = written_none (0 * b) f.owners i;
    }

module _ (g : Geometry) (f : File) (pool₀ waiting₀ poolowners₀ : List ℕ) (R : Placeable g f pool₀ waiting₀ poolowners₀)
    (sound : first_unsound_lem g.parameters g.growth f 0 g.parameters.pages ≡ g.parameters.pages)
    (stored : pool₀ ≡ homes_of g.parameters g.growth f.numbers) where
  abbrev p : Parameters
  p = g.parameters

  abbrev H : Hash
  H = hash_of g.parameters g.growth

  pub renewed_none : Renewed g f f pool₀ waiting₀ poolowners₀ 0
  unfolding pages
  renewed_none =
      record {
        most = omega arith;
        starts = λ h e d. absurd (omega arith);
        file = replaced-none p.places f;
        homes = ap (drop (0 * p.places)) stored;
        pooled = R.pooled;
      }

  pub renewed_all : (F : File) (pool waiting poolowners : List ℕ) (lo : ℕ) → Renewed g f F pool waiting poolowners lo → p.pages ≤ lo
      → F ≡ replaced p.places f 0 (pages H 0 p.pages (all_stars p f))
  renewed_all F pool waiting poolowners lo r h =
      let all : lo ≡ p.pages = omega (arith, r.most) in
      rw all at r.file

  module _ (F : File) (pool waiting poolowners : List ℕ) (lo : ℕ) (r : Renewed g f F pool waiting poolowners lo) where
    roomy : Roomy p.places (ruled_below g f lo)
    unfolding hash_of
    roomy = roomy-pages H 0 lo (gathered p.places f 0 lo)

    count : length (ruled_below g f lo) ≡ lo
    count = length-pages H 0 lo (gathered p.places f 0 lo)

    pub renewed_sized : Sized p.places p.pages F
    renewed_sized = rw r.file (sized-replaced p.places p.pages f 0 (ruled_below g f lo) R.sized roomy (omega (arith, count, r.most)))

    pub renewed_alike : AlikeFrom p.places lo F f
    renewed_alike = rw r.file (replaced-alike p.places p.pages lo f (ruled_below g f lo) R.sized roomy count)

    -- n pages of a block placed anew
    renewed-joined : (n : ℕ) → lo < p.pages → lo + n ≤ p.pages
        → replaced p.places F lo (pages H lo n (gathered p.places F lo n)) ≡ replaced p.places f 0 (ruled_below g f (lo + n))
    unfolding hash_of
    renewed-joined n inside h =
        let cs : List Contents = ruled_below g f lo in
        let ds : List Contents = pages H lo n (gathered p.places f lo n) in
        let at : lo ≡ 0 + length cs = sym (zero-add (length cs) ∙ count) in
        ap (λ (l : List Star). replaced p.places F lo (pages H lo n l)) (gathered-alike p.places lo n F f renewed_alike)
        ∙ ap (λ (x : File). replaced p.places x lo ds) r.file
        ∙ ap (λ (k : ℕ). replaced p.places (replaced p.places f 0 cs) k ds) at
        ∙ replaced-add p.places p.pages f 0 cs ds R.sized roomy (omega arith)
        ∙ ap (replaced p.places f 0) (sym (pages-joined valid_word H f p.pages R.sized (all-are-sound p g.growth f sound) (bounded-real p g.growth R.valid) lo n (r.starts inside) h))

    -- where the block ends
    module _ (top last : ℕ) (et : top ≡ top_of_lem p.bits) (inside : lo < p.pages)
        (el : last ≡ first_such (stored_top F.separators top) lo (length F.separators - 1 - lo)) where
      found : Such (stored_top F.separators top) lo (length F.separators - 1 - lo) last
      found = rw el (such (stored_top F.separators top) lo (length F.separators - 1 - lo))

      pub ends-least : lo ≤ last
      ends-least = found.low

      pub ends-most : last < p.pages
      ends-most = omega (arith, found.high, renewed_sized.of_separators)

      -- its last page has the separator 2^k − 1, or is the last one of all
      starts-next : last + 1 < p.pages → Starts H f (last + 1)
      unfolding hash_of
      starts-next h e d =
          let at : e ≡ last = omega arith in
          let there = eqb-true (get_or F.separators last 0) top (found.passes (omega (arith, renewed_sized.of_separators))) in
          rw (at, ← separator_alike p.places lo last F f renewed_alike ends-least) (there ∙ et)

      sum : lo + (last + 1 - lo) ≡ last + 1
      sum = omega (arith, ends-least)

      block-homes : stretch p.places lo (last + 1 - lo) pool ≡ homes_of p g.growth (stretch p.places lo (last + 1 - lo) F.numbers)
      unfolding homes_of
      block-homes =
          let home : ℕ → ℕ = home_in p g.growth in
          let items : ℕ = (last + 1 - lo) * p.places in
          ap (take items) (r.homes ∙ map-drop home (lo * p.places) f.numbers ∙ ap (map home) (sym renewed_alike.numbers))
          ∙ map-take home items (drop (lo * p.places) F.numbers)

      pub renewed_block : SoundBlock g lo (last + 1 - lo) F pool waiting poolowners
      renewed_block =
          record {
            ready = record { valid = R.valid; sized = renewed_sized; pooled = r.pooled };
            some = omega (arith, ends-least);
            inside = omega (arith, sum, ends-most);
            stored = f;
            sized = R.sized;
            alike = renewed_alike;
            sound = λ q a b. sound-at p g.growth f sound q (omega arith) (omega (arith, sum, ends-most));
            homes = block-homes;
          }

      pub renewed_next : (F' : File) (pool' waiting' poolowners' : List ℕ)
          → F' ≡ replaced p.places F lo (pages H lo (last + 1 - lo) (gathered p.places F lo (last + 1 - lo)))
          → drop ((lo + (last + 1 - lo)) * p.places) pool' ≡ drop ((lo + (last + 1 - lo)) * p.places) pool → Pooled p pool' waiting' poolowners'
          → Renewed g f F' pool' waiting' poolowners' (last + 1)
      renewed_next F' pool' waiting' poolowners' ef ep sizes =
          record {
            most = omega (arith, ends-most);
            starts = starts-next;
            file = rw sum at (ef ∙ renewed-joined (last + 1 - lo) inside (omega (arith, sum, ends-most)));
            homes =
                rw sum at ep
                ∙ alike-later (lo * p.places) ((last + 1) * p.places) pool (homes_of p g.growth f.numbers) (mul-le-mul_right p.places (omega (arith, ends-least))) r.homes;
            pooled = sizes;
          }
