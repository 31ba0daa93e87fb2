-- The calls, each as what it answers and leaves of the lent buffers: document 01, "The cut" and "Where each refusal is met".
use Rattle.std.specs.Prelude.{Bool, cond, ◌&&◌, ◌||◌, [], ◌∷◌, ℕ, zero, suc, ◌+◌, ◌-◌, ◌*◌, ◌/◌, ◌%◌, eqb, ltb, length, get_or, set, replicate}
use Rattle.reach.specs.Reach.{all_stars}
use Rattle.hashing.specs.declared.Parameters.{Parameters}
use Rattle.hashing.specs.declared.Growth.{Growth}
use Rattle.generator.specs.Generator.{top_of_lem}
use Rattle.hashing.specs.Limits.{valid_parameters, valid_growth}
use Rattle.hashing.specs.Geometry.{page_count, highest, grown, ungrown, is_ungrown, shrunk}
use Rattle.pages.specs.declared.position.Position.{Position}
use Rattle.pages.specs.Position.{valid_number, valid_position, packed, unpacked}
use Rattle.pages.specs.Page.{part, place_of, held_at}
use Rattle.placement.specs.Rule.{Star, pages, left, without, star_with}
use Rattle.placement.specs.File.{File, gathered, replaced}
use Rattle.placement.specs.Hash.{hash_of, sound_at, named_page_lem}
pub use Rattle.calls.specs.Spots.{first_spot, ruled}
use Rattle.calls.specs.Answers.{Answer, accepted, refused, accepted_at, refused_at, spotted, found_at, counted, Pool, cleared, After}
use Rattle.calls.specs.Due.{stars, is_due}
use Rattle.calls.specs.Reach.{is_empty, pages_to, removal_end, entering, enters_within, entry_end, first_unsound_lem, holding, cascaded, carried_past}

-- Refusals 1 to 4, of which the first is met

-- M·b numbers, M·b words and M·b owners
abbrev pub pool_lengths : Parameters → ℕ → ℕ → ℕ → Bool
pool_lengths p numbers words owners =
    eqb numbers (p.pages * p.places) && (eqb words (p.pages * p.places) && eqb owners (p.pages * p.places))

-- M separators and the same
abbrev pub file_lengths : Parameters → ℕ → ℕ → ℕ → ℕ → Bool
file_lengths p separators numbers words owners = eqb separators p.pages && pool_lengths p numbers words owners

unfoldable pub file_fits_lem : Parameters → File → Bool
file_fits_lem p f = file_lengths p (length f.separators) (length f.numbers) (length f.words) (length f.owners)

unfoldable pub pool_fits_lem : Parameters → Pool → Bool
pool_fits_lem p pool = pool_lengths p (length pool.numbers) (length pool.words) (length pool.owners)

-- n, unless the fact holds
abbrev pub unless : Bool → ℕ → ℕ
unless fact n = cond fact 0 n

-- the first of two refusals, 0 being none
abbrev pub or_else : ℕ → ℕ → ℕ
or_else zero n = n
or_else (suc m) n = suc m

-- "a parameter, or (e, x)" is 1, "a buffer length, pool included where used" 2
unfoldable pub unlent : Parameters → Growth → Bool → ℕ
unlent p g lengths = or_else (unless (valid_parameters p && valid_growth p g) 1) (unless lengths 2)

-- a call that was refused before anything was read
abbrev pub untouched : Growth → File → Pool → ℕ → After
untouched g f pool n = record { answer = refused n 0; growth = g; file = f; pool = pool }

-- a call that left growth state and file as they were
abbrev pub unchanged : Growth → File → Pool → Answer → After
unchanged g f pool answer = record { answer = answer; growth = g; file = f; pool = pool }

-- refused with n, or what else the call does
abbrev pub guarded : Growth → File → Pool → ℕ → After → After
guarded g f pool zero after = after
guarded g f pool (suc n) after = untouched g f pool (suc n)

-- The named page. Past its refusal 5 an answer has the place found on it, whatever the call does then: document 02 (ii)

-- "the page the separators name is unsound, or none is named (page given as M)"
unfoldable pub readable : Parameters → Growth → File → ℕ → Bool
readable p g f page = ltb page p.pages && sound_at p g f page

abbrev pub named : Parameters → Growth → File → ℕ → ℕ
named p g f k = named_page_lem p g f.separators k

unfoldable pub holds : Parameters → File → ℕ → ℕ → Bool
holds p f page k = held_at k (part p.places page f.numbers)

-- where k stands on a page or would stand: the place at which the page's search ends
abbrev pub place_for : Parameters → File → ℕ → ℕ → ℕ
place_for p f page k = place_of k (part p.places page f.numbers)

-- the item of that place
unfoldable pub item_of : Parameters → File → ℕ → ℕ → ℕ
item_of p f page k = page * p.places + place_for p f page k

-- Make

-- "An empty file is separators 2^k − 1, all else 0"
unfoldable pub empty_file_lem : Parameters → File
empty_file_lem p =
    record {
      separators = replicate p.pages (top_of_lem p.bits);
      numbers = replicate (p.pages * p.places) 0;
      words = replicate (p.pages * p.places) 0;
      owners = replicate (p.pages * p.places) 0;
    }

unfoldable pub make_of : Parameters → File → Pool → After
make_of p f pool =
    guarded ungrown f pool
    (or_else (unless (valid_parameters p) 1) (unless (file_fits_lem p f) 2))
    (record { answer = accepted 0; growth = ungrown; file = empty_file_lem p; pool = pool })

-- Look-up

-- "It answers the position or "none", with the page."
unfoldable pub looked_up : Parameters → Growth → File → ℕ → ℕ → Answer
looked_up p g f page k =
    let place = place_for p f page k in
    cond (readable p g f page)
    (cond (holds p f page k)
    (found_at page place (unpacked (get_or f.words (item_of p f page k) 0)))
    (accepted_at page place))
    (refused 5 page)

unfoldable pub look_up_of : Parameters → Growth → File → Pool → ℕ → After
look_up_of p g f pool k =
    guarded g f pool
    (or_else (unlent p g (file_fits_lem p f)) (unless (valid_number k) 3))
    (unchanged g f pool (looked_up p g f (named p g f k) k))

-- Enter

-- the rule applied to the reach that ends at page `to`; `place` is where the star was sought
unfoldable pub enter_to : Parameters → Growth → File → Pool → Star → ℕ → ℕ → After
enter_to p g f pool s place to =
    let H = hash_of p g in
    let from = H.home s.number in
    let n = pages_to from to in
    let bad = first_unsound_lem p g f from n in
    let cs = pages H from n (entering H f s to) in
    cond (ltb bad (from + n))
    (unchanged g f pool (refused_at 5 bad place))
    (cond (enters_within H f s to)
    (record {
      answer = accepted_at (holding s.number from cs) place;
      growth = g;
      file = replaced p.places f from cs;
      pool = pool;
    })
    (unchanged g f pool (refused_at 8 0 place)))

-- "a held star with exactly its stored position is now accepted, answers its page", "Any other position is 6": document 02 (v)
unfoldable pub entered_again_lem : Parameters → File → ℕ → Star → Answer
entered_again_lem p f page s =
    let place = place_for p f page s.number in
    cond (eqb (get_or f.words (item_of p f page s.number) 0) s.payload.word) (accepted_at page place) (refused_at 6 0 place)

-- an entry past refusal 4: the named page is refused with 5, a held star's entry is a resend or 6, and a star not held comes to `after`
abbrev pub unless_held : Parameters → Growth → File → Pool → ℕ → Star → After → After
unless_held p g f pool page s after =
    cond (readable p g f page)
    (cond (holds p f page s.number) (unchanged g f pool (entered_again_lem p f page s)) after)
    (unchanged g f pool (refused 5 page))

unfoldable pub enter_on : Parameters → Growth → File → Pool → ℕ → Star → After
enter_on p g f pool page s =
    unless_held p g f pool page s
    (enter_to p g f pool s (place_for p f page s.number) (entry_end (hash_of p g) p.pages f s))

-- refusals 1 to 4 of an entry
abbrev pub entry_refusal : Parameters → Growth → File → Pool → ℕ → Position → ℕ
entry_refusal p g f pool k position =
    or_else (unlent p g (file_fits_lem p f && pool_fits_lem p pool))
    (or_else (unless (valid_number k) 3) (unless (valid_position position) 4))

-- "An entered star is its caller's": document 02 (x)
abbrev pub entered : ℕ → ℕ → Position → Star
entered caller k position = star_with k (packed position) caller

unfoldable pub enter_of : Parameters → Growth → File → Pool → ℕ → ℕ → Position → After
enter_of p g f pool caller k position =
    guarded g f pool (entry_refusal p g f pool k position)
    (enter_on p g f (cleared pool) (named p g f k) (entered caller k position))

-- Enter by a cascade: document 02 (ix), "It runs beside the present entry"

-- from the page that the separators name; "a visited page that is unsound is 5", "5 and 8 leave the file unchanged"
unfoldable pub cascade_from : Parameters → Growth → File → Pool → Star → ℕ → ℕ → After
cascade_from p g f pool s place page =
    let H = hash_of p g in
    let n = p.pages - page in
    let cs = cascaded H f page n (s ∷ []) in
    let bad = first_unsound_lem p g f page (length cs) in
    cond (ltb bad (page + length cs))
    (unchanged g f pool (refused_at 5 bad place))
    (cond (is_empty (carried_past H f page n (s ∷ [])))
    (record {
      answer = accepted_at (holding s.number page cs) place;
      growth = g;
      file = replaced p.places f page cs;
      pool = pool;
    })
    (unchanged g f pool (refused_at 8 0 place)))

unfoldable pub cascade_on : Parameters → Growth → File → Pool → ℕ → Star → After
cascade_on p g f pool page s =
    unless_held p g f pool page s (cascade_from p g f pool s (place_for p f page s.number) page)

unfoldable pub cascade_of : Parameters → Growth → File → Pool → ℕ → ℕ → Position → After
cascade_of p g f pool caller k position =
    guarded g f pool (entry_refusal p g f pool k position)
    (cascade_on p g f (cleared pool) (named p g f k) (entered caller k position))

-- Who may change or remove a star

-- "13, after 7 and before pages of the reach are read, when the caller .. is neither the star's owner nor 0": document 02 (x)
unfoldable pub may_alter_lem : ℕ → ℕ → Bool
may_alter_lem caller owner = eqb caller 0 || eqb caller owner

-- the owner of the held star k
abbrev pub owner_for : Parameters → File → ℕ → ℕ → ℕ
owner_for p f page k = get_or f.owners (item_of p f page k) 0

-- what the call does to a held star, or its refusal
unfoldable pub allowed : Parameters → Growth → File → Pool → ℕ → ℕ → ℕ → After → After
allowed p g f pool page caller k after =
    cond (may_alter_lem caller (owner_for p f page k)) after (unchanged g f pool (refused_at 13 0 (place_for p f page k)))

-- Change

-- "A change writes one word", "a change leaves the owner".
unfoldable pub change_on : Parameters → Growth → File → Pool → ℕ → ℕ → ℕ → ℕ → After
change_on p g f pool page caller k word =
    let place = place_for p f page k in
    cond (readable p g f page)
    (cond (holds p f page k)
    (allowed p g f pool page caller k
    (record {
      answer = accepted_at page place;
      growth = g;
      file =
          record {
            separators = f.separators;
            numbers = f.numbers;
            words = set f.words (item_of p f page k) word;
            owners = f.owners;
          };
      pool = pool;
    }))
    (unchanged g f pool (refused_at 7 0 place)))
    (unchanged g f pool (refused 5 page))

unfoldable pub change_of : Parameters → Growth → File → Pool → ℕ → ℕ → Position → After
change_of p g f pool caller k position =
    guarded g f pool
    (or_else (unlent p g (file_fits_lem p f)) (or_else (unless (valid_number k) 3) (unless (valid_position position) 4)))
    (change_on p g f pool (named p g f k) caller k (packed position))

-- Remove

unfoldable pub remove_to : Parameters → Growth → File → Pool → ℕ → ℕ → ℕ → ℕ → After
remove_to p g f pool page k place to =
    let H = hash_of p g in
    let from = H.home k in
    let n = pages_to from to in
    let bad = first_unsound_lem p g f from n in
    cond (ltb bad (from + n))
    (unchanged g f pool (refused_at 5 bad place))
    (record {
      answer = accepted_at page place;
      growth = g;
      file = replaced p.places f from (pages H from n (without k (gathered p.places f from n)));
      pool = pool;
    })

unfoldable pub remove_on : Parameters → Growth → File → Pool → ℕ → ℕ → ℕ → After
remove_on p g f pool page caller k =
    let place = place_for p f page k in
    cond (readable p g f page)
    (cond (holds p f page k)
    (allowed p g f pool page caller k (remove_to p g f pool page k place (removal_end (hash_of p g) p.pages f ((hash_of p g).home k))))
    (unchanged g f pool (refused_at 7 0 place)))
    (unchanged g f pool (refused 5 page))

unfoldable pub remove_of : Parameters → Growth → File → Pool → ℕ → ℕ → After
remove_of p g f pool caller k =
    guarded g f pool
    (or_else (unlent p g (file_fits_lem p f && pool_fits_lem p pool)) (unless (valid_number k) 3))
    (remove_on p g f (cleared pool) (named p g f k) caller k)

-- Grow

-- all stars placed anew under the growth state `next`; `page` is the one that comes or goes
unfoldable pub regrow_to : Parameters → Growth → File → Pool → Growth → ℕ → After
regrow_to p g f pool next page =
    let bad = first_unsound_lem p g f 0 p.pages in
    let w = all_stars p f in
    cond (ltb bad p.pages)
    (unchanged g f pool (refused 5 bad))
    (cond (is_empty (left (hash_of p next) 0 p.pages w))
    (record {
      answer = accepted page;
      growth = next;
      file = replaced p.places f 0 (pages (hash_of p next) 0 p.pages w);
      pool = pool;
    })
    (unchanged g f pool (refused 8 0)))

-- "highest address is M−1" is 8
abbrev pub grow_on : Parameters → Growth → File → Pool → After
grow_on p g f pool =
    cond (eqb (highest p g) (p.pages - 1))
    (unchanged g f pool (refused 8 0))
    (regrow_to p g f pool (grown p g) (page_count p g))

unfoldable pub grow_of : Parameters → Growth → File → Pool → After
grow_of p g f pool =
    guarded g f pool (unlent p g (file_fits_lem p f && pool_fits_lem p pool)) (grow_on p g f (cleared pool))

-- Shrink: document 02 (i)

-- "refuses with 9, right after 2, when (e, x) is (0, 0)"; the page given back is the highest address
abbrev pub shrink_on : Parameters → Growth → File → Pool → After
shrink_on p g f pool =
    cond (is_ungrown g)
    (unchanged g f pool (refused 9 0))
    (regrow_to p g f pool (shrunk p g) (highest p g))

unfoldable pub shrink_of : Parameters → Growth → File → Pool → After
shrink_of p g f pool =
    guarded g f pool (unlent p g (file_fits_lem p f && pool_fits_lem p pool)) (shrink_on p g f (cleared pool))

-- Due

unfoldable pub due_of : Parameters → Growth → File → Pool → After
due_of p g f pool =
    guarded g f pool
    (unlent p g (file_fits_lem p f))
    (unchanged g f pool (counted (is_due p g f.numbers) (stars f.numbers)))

-- Check

unfoldable pub checked_at : Parameters → ℕ → ℕ → Answer
checked_at p bad spot =
    cond (ltb bad p.pages)
    (spotted 5 bad p.places)
    (cond (ltb spot (p.pages * suc p.places))
    (spotted 5 (spot / suc p.places) (spot % suc p.places))
    (accepted 0))

unfoldable pub check_of : Parameters → Growth → File → Pool → After
check_of p g f pool =
    guarded g f pool
    (unlent p g (file_fits_lem p f && pool_fits_lem p pool))
    (unchanged g f (cleared pool)
    (checked_at p (first_unsound_lem p g f 0 p.pages) (first_spot p f (ruled p g f))))
