-- document 02 (xiv), for files.
use mathlib.Core.Path.{◌≡◌, sym, ap, ◌∙◌, subst}
use mathlib.Core.Bool.{true, false}
use mathlib.Core.List.{List, []}
use Prim.Native.Nat.{ℕ, suc, ◌-◌, ◌<◌}
use native.Mathlib.Omega.{arith}
use lib.ListN.{length, get_or}
use borrow.Author.Tests.{eq-eqb}
use Rattle.hashing.specs.declared.Parameters.{Parameters}
use Rattle.hashing.specs.declared.Growth.{Growth}
use Rattle.generator.specs.Generator.{top_of_lem}
use Rattle.hashing.specs.Geometry.{grown}
use Rattle.pages.specs.Position.{valid_word}
use Rattle.placement.specs.Rule.{Star, Contents, pages, left, separators}
use Rattle.placement.specs.Shape.{blank}
use Rattle.placement.specs.File.{File, gathered, replaced, file_of, laid}
use Rattle.placement.specs.Hash.{hash_of}
use Rattle.placement.proofs.Composition.{length-pages}
use Rattle.placement.proofs.Standing.{length-separators}
use Rattle.placement.proofs.Writing.{Roomy, part-column, get_d_separators}
use Rattle.placement.proofs.Files.{number_of, word_of, owner_of, roomy-pages, all-replaced}
use Rattle.placement.proofs.Probing.{bounded-real}
use Rattle.placement.proofs.Sound.{clean_list}
use Rattle.backup.specs.Stretches.{top_at, top_twice, may_change}
use Rattle.backup.specs.Local.{Pool, grow_of, Untouched, Grows, GrowthLocal, StretchesEnd}
use Rattle.backup.proofs.Ranges.{ends-passing}
use Rattle.backup.proofs.Last.{last-top}
use Rattle.backup.proofs.Moved.{page-stays}
use Rattle.backup.proofs.Accepted.{Accepted, accepted-growth}

-- A page that two layouts have in common.
same-part : (b : ℕ) (cs ds : List Contents) (page : ℕ) → Roomy b cs → Roomy b ds → page < length cs → page < length ds
    → get_or cs page blank ≡ get_or ds page blank → Untouched b (file_of b cs) (file_of b ds) page
unfolding file_of
same-part b cs ds page rc rd hc hd e =
    record {
      separator = rw (get_d_separators cs page, get_d_separators ds page, e);
      numbers = rw (part-column b number_of cs page rc hc, part-column b number_of ds page rd hd, e);
      words = rw (part-column b word_of cs page rc hc, part-column b word_of ds page rd hd, e);
      owners = rw (part-column b owner_of cs page rc hc, part-column b owner_of ds page rd hd, e);
    }

module _ (p : Parameters) (g : Growth) (f : File) (pool : Pool) (grows : Grows p g f pool) where
  stars : List Star
  stars = gathered p.places f 0 p.pages

  done : Accepted p g f (grow_of p g f pool).file
  done = accepted-growth p g f pool grows.accepted

  abbrev before : List Contents
  before = pages (hash_of p g) 0 p.pages stars

  abbrev after : List Contents
  after = pages (hash_of p (grown p g)) 0 p.pages stars

  is-before : f ≡ file_of p.places before
  unfolding laid hash_of stars
  is-before = grows.clean.by_rule

  is-after : (grow_of p g f pool).file ≡ file_of p.places after
  unfolding hash_of stars
  is-after =
      done.file
      ∙ ap (λ (h : File). replaced p.places h 0 after) is-before
      ∙ all-replaced p.places before after (roomy-pages (hash_of p g) 0 p.pages stars) (roomy-pages (hash_of p (grown p g)) 0 p.pages stars)
      (length-pages (hash_of p (grown p g)) 0 p.pages stars ∙ sym (length-pages (hash_of p g) 0 p.pages stars))

  separators-before : f.separators ≡ separators before
  unfolding file_of
  separators-before = ap (λ (h : File). h.separators) is-before

  separators-after : (grow_of p g f pool).file.separators ≡ separators after
  unfolding file_of
  separators-after = ap (λ (h : File). h.separators) is-after

  pub sized-after : length (grow_of p g f pool).file.separators ≡ p.pages
  sized-after = ap length separators-after ∙ length-separators after ∙ length-pages (hash_of p (grown p g)) 0 p.pages stars

  local-page : (page : ℕ) → page < p.pages → may_change p g f.separators (grow_of p g f pool).file.separators page ≡ false
      → Untouched p.places f (grow_of p g f pool).file page
  unfolding hash_of
  local-page page inside e =
      let out : may_change p g (separators before) (separators after) page ≡ false =
      ap (λ (l : List ℕ). may_change p g l (separators after) page) (sym separators-before)
      ∙ ap (λ (l : List ℕ). may_change p g f.separators l page) (sym separators-after)
      ∙ e in
      let stays : Untouched p.places (file_of p.places before) (file_of p.places after) page =
      same-part p.places before after page (roomy-pages (hash_of p g) 0 p.pages stars) (roomy-pages (hash_of p (grown p g)) 0 p.pages stars)
      (omega (arith, length-pages (hash_of p g) 0 p.pages stars))
      (omega (arith, length-pages (hash_of p (grown p g)) 0 p.pages stars))
      (page-stays p g done.parameters done.growth stars page inside out) in
      subst (λ (h : File). Untouched p.places h (grow_of p g f pool).file page) (sym is-before)
      (subst (λ (h : File). Untouched p.places (file_of p.places before) h page) (sym is-after) stays)

  -- The last page's separator is top before and after.
  top-last : (h : Growth) → left (hash_of p h) 0 p.pages stars ≡ [] → top_at p (separators (pages (hash_of p h) 0 p.pages stars)) (p.pages - 1) ≡ true
  unfolding top_at hash_of
  top-last h e =
      let some : suc (p.pages - 1) ≡ p.pages = omega (arith, done.more) in
      eq-eqb (get_or (separators (pages (hash_of p h) 0 p.pages stars)) (p.pages - 1) 0) (top_of_lem p.bits)
      (rw some at (last-top (hash_of p h) (bounded-real p h done.parameters) (p.pages - 1) stars (rw some e)))

  fits-before : left (hash_of p g) 0 p.pages stars ≡ []
  unfolding hash_of stars
  fits-before = (clean_list valid_word (hash_of p g) f p.pages done.sized grows.clean).2

  fits_after : left (hash_of p (grown p g)) 0 p.pages stars ≡ []
  unfolding stars
  fits_after = done.fits

  last-before : top_at p f.separators (p.pages - 1) ≡ true
  last-before = rw separators-before (top-last g fits-before)

  last-after : top_at p (grow_of p g f pool).file.separators (p.pages - 1) ≡ true
  last-after = rw separators-after (top-last (grown p g) fits_after)

  last-twice : top_twice p f.separators (grow_of p g f pool).file.separators (p.pages - 1) ≡ true
  unfolding top_twice
  last-twice = rw (last-before, last-after)

pub growth_local : GrowthLocal
growth_local p g f pool grows = local-page p g f pool grows

pub stretches_end : StretchesEnd
stretches_end p g f pool grows q h = (
  ends-passing p (top_at p f.separators) q h (last-before p g f pool grows),
  ends-passing p (top_twice p f.separators (grow_of p g f pool).file.separators) q h (last-twice p g f pool grows),
)
