-- A look-up depends on its page alone.
use mathlib.Core.Path.{◌≡◌, refl, sym, ap, ◌∙◌}
use mathlib.Core.Bool.{Bool, true, false, cond}
use Prim.Native.Nat.{ℕ, zero, suc, ◌+◌, ◌*◌, ◌<◌}
use mathlib.Core.List.{List}
use native.Mathlib.Omega.{arith}
use lib.ListN.{drop, get_or, length-take}
use Rattle.hashing.specs.declared.Parameters.{Parameters}
use Rattle.hashing.specs.declared.Growth.{Growth}
use Rattle.pages.specs.Page.{part, place_of, held_at}
use Rattle.pages.specs.Position.{valid_number, unpacked}
use Rattle.pages.proofs.Parts.{part-item}
use Rattle.pages.proofs.Places.{held-there}
use Rattle.placement.specs.File.{File, stars_at, sound}
use Rattle.placement.specs.Hash.{hash_of, sound_at, named_page_lem}
use Rattle.calls.specs.declared.answers.Answer.{Answer}
use Rattle.calls.specs.declared.records.GrowthRecord.{GrowthRecord}
use Rattle.calls.specs.Answers.{Pool, After, accepted_at, refused, found_at}
use Rattle.calls.specs.Calls.{named, file_fits_lem, unless, or_else, unlent, unchanged, guarded, readable, holds, item_of, looked_up, look_up_of}
use Rattle.calls.specs.Records.{valid_steps, look_up_under}
use Rattle.histories.specs.Alike.{Alike, LookUpsAlike}

-- an item of a page, by the page's items
item-alike : (b page i : ℕ) (l m : List ℕ) → i < b → part b page l ≡ part b page m → get_or l (page * b + i) 0 ≡ get_or m (page * b + i) 0
item-alike b page i l m h e = sym (part-item b page l i h) ∙ ap (λ (r : List ℕ). get_or r i 0) e ∙ part-item b page m i h

pub place-below : (b page k : ℕ) (l : List ℕ) → held_at k (part b page l) ≡ true → place_of k (part b page l) < b
unfolding part
place-below b page k l h = omega (arith, (held-there k (part b page l) h).0, length-take b (drop (page * b) l))

guarded-alike : (g : Growth) (f h : File) (pool other : Pool) (n : ℕ) (a b : After) → a.answer ≡ b.answer
    → (guarded g f pool n a).answer ≡ (guarded g h other n b).answer
guarded-alike g f h pool other zero a b e = e
guarded-alike g f h pool other (suc n) a b e = refl

module _ (p : Parameters) (g : Growth) (f h : File) (page : ℕ) (seps : f.separators ≡ h.separators)
    (nums : part p.places page f.numbers ≡ part p.places page h.numbers)
    (ws : part p.places page f.words ≡ part p.places page h.words)
    (os : part p.places page f.owners ≡ part p.places page h.owners) where
  readable-alike : readable p g f page ≡ readable p g h page
  unfolding readable sound_at sound stars_at hash_of part
  readable-alike = rw (seps, nums, ws, os)

  looked-up-alike : (k : ℕ) → looked_up p g f page k ≡ looked_up p g h page k
  unfolding looked_up holds item_of
  looked-up-alike k = rw (readable-alike, nums) (go (held_at k (part p.places page h.numbers)) refl)
    where
      place : ℕ
      place = place_of k (part p.places page h.numbers)

      found : ℕ → Answer
      found word = found_at page place (unpacked word)

      go : (t : Bool) → held_at k (part p.places page h.numbers) ≡ t
          → cond (readable p g h page) (cond t (found (get_or f.words (page * p.places + place) 0)) (accepted_at page place)) (refused 5 page)
          ≡ cond (readable p g h page) (cond t (found (get_or h.words (page * p.places + place) 0)) (accepted_at page place)) (refused 5 page)
      go true e = rw (item-alike p.places page place f.words h.words (place-below p.places page k h.numbers e) ws)
      go false e = refl

fits-alike : (p : Parameters) (r : GrowthRecord) (k : ℕ) (f h : File) → Alike p r k f h → file_fits_lem p f ≡ file_fits_lem p h
unfolding file_fits_lem
fits-alike p r k f h a = rw (a.separators, a.numbers_length, a.words_length, a.owners_length)

named-alike : (p : Parameters) (r : GrowthRecord) (k : ℕ) (f h : File) → Alike p r k f h
    → looked_up p r.state f (named p r.state f k) k ≡ looked_up p r.state h (named p r.state h k) k
named-alike p r k f h a =
    looked-up-alike p r.state f h (named p r.state f k) a.separators a.numbers a.words a.owners k
    ∙ ap (λ (vs : List ℕ). looked_up p r.state h (named_page_lem p r.state vs k) k) a.separators

under-state : (p : Parameters) (r : GrowthRecord) (k : ℕ) (f h : File) (pool other : Pool) → Alike p r k f h
    → (look_up_of p r.state f pool k).answer ≡ (look_up_of p r.state h other k).answer
unfolding look_up_of
under-state p r k f h pool other a =
    let g = r.state in
    ap (λ (t : Bool). (guarded g f pool (or_else (unlent p g t) (unless (valid_number k) 3)) (unchanged g f pool (looked_up p g f (named p g f k) k))).answer) (fits-alike p r k f h a)
    ∙ guarded-alike g f h pool other (or_else (unlent p g (file_fits_lem p h)) (unless (valid_number k) 3))
    (unchanged g f pool (looked_up p g f (named p g f k) k))
    (unchanged g h other (looked_up p g h (named p g h k) k))
    (named-alike p r k f h a)

pub look_ups_alike_lem : LookUpsAlike
unfolding look_up_under
look_ups_alike_lem p r k f h pool other a =
    guarded-alike r.state f h pool other (unless (valid_steps p r) 1) (look_up_of p r.state f pool k) (look_up_of p r.state h other k)
    (under-state p r k f h pool other a)
