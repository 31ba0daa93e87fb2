-- An entry into a run: an unsound page of it; and a run of pages that are the rule's, in which only newcomers move, the star alone if its own page has room.
use mathlib.Core.Path.{◌≡◌, refl, sym, ap, subst, ◌∙◌}
use mathlib.Core.Bool.{true, false, not, ◌&&◌}
use mathlib.Core.List.{List, [], ◌∷◌, ◌++◌, map, append-nil, append_assoc, Memᴰ}
use mathlib.Core.Logic.{⊎_elim}
use Prim.Native.Nat.{ℕ, zero, suc, ◌+◌, ◌-◌, ◌*◌, ◌≤◌, ◌<◌}
use native.Mathlib.Nat.{zero-add, le_refl, le_antisymm}
use native.Mathlib.Decide.{dec_lt}
use native.Mathlib.Omega.{arith}
use lib.ListN.{length, get_or, take, drop, length-append, length-drop, length-map}
use lib.Seq.{paste, take_all, take-add, take_at, drop_at, length-take-le}
use borrow.Author.Tests.{eqb-true}
use Rattle.hashing.specs.declared.Parameters.{Parameters}
use Rattle.hashing.specs.declared.Growth.{Growth}
use Rattle.hashing.specs.declared.Geometry.{Geometry}
use Rattle.hashing.specs.Limits.{valid_parameters}
use Rattle.hashing.proofs.Bounds.{limits}
use Rattle.buffers.specs.Lists.{written}
use Rattle.buffers.proofs.Written.{written-middle}
use Rattle.pages.specs.Page.{part, place_of}
use Rattle.pages.specs.Position.{valid_number, valid_word}
use Rattle.placement.specs.Rule.{Star, Hash, Contents, below, staying, passing, pages, left, insert, pour}
use Rattle.placement.specs.File.{File, pages_at, gathered, replaced, stars_at}
use Rattle.placement.specs.Shape.{Sized}
use Rattle.placement.specs.Hash.{hash_of, sound_at, named_page_lem}
use Rattle.placement.specs.Shape.{home_under}
use Rattle.placement.proofs.Filters.{filter-all, filter-all-on, filter-none-on, length-filter}
use Rattle.placement.proofs.Order.{Absent, member_insert, length-insert, pour-insert, pour-nil, rising-sorted}
use Rattle.placement.proofs.Standing.{first_home, first-before, first_below, past_top}
use Rattle.placement.proofs.Writing.{length_part}
use Rattle.placement.proofs.Search.{absent_held}
use Rattle.placement.proofs.Sound.{Sound, AllSound, absent_named, sound-rising, sound-fits, gathered-rising}
use Rattle.placement.proofs.Files.{length-pages_at}
use Rattle.placement.proofs.Mapping.{mapped}
use Rattle.placement.proofs.Probing.{bounded-real}
use Rattle.placement.proofs.Tested.{real_facts}
use Rattle.reach.specs.Reach.{first_such, is_empty, pages_to, stored_top, removal_end, entering, enters_within, entry_end, first_unsound_lem}
use Rattle.reach.specs.Cascade.{meeting, lowered, pushed_to, pushed_on, cascaded, carried_past}
use Rattle.reach.proofs.Cascading.{lowered-stored, lowered-great, pages_at-add, new-pages, new-left}
use Rattle.reach.proofs.Search.{Such, such}
use Rattle.reach.proofs.Stretches.{stretch-leaves, stretch-file}
use Rattle.clean_test.specs.Raising.{raisable_from}
use Rattle.clean_test.proofs.Raising.{none-ruled}
use Rattle.page_edit.specs.Shift.{number_at, Vacant}
use Rattle.page_edit.proofs.Shifted.{vacant-room}
use Rattle.page_edit.proofs.OnePage.{file-alone, ordered-page}
use Rattle.page_plan.specs.declared.outcome.Outcome.TheVariants.{On, Unsound as outcome·Unsound}
use Rattle.page_plan.specs.Sources.{renamed}
use Rattle.page_plan.proofs.Applying.{applied}
use Rattle.decision.specs.Carried.{with_stars, stars_there}
use Rattle.decision.specs.declared.chosen.Decision.TheVariants.{Put, Planned}
use Rattle.entry_reach.specs.declared.blocks.Reach.TheVariants.{Ends, Unsound, Overflows}
use Rattle.entry_reach.specs.Entry.{Unheld, new_star_lem, entry_start, entry_last, entry_unsound, entry_contents, block_end, reach_answer, entry_answer, entry_file, DecidesEntry}
use Rattle.entry_reach.specs.Pushing.{PushedTo, Pushed}
use Rattle.entry_reach.specs.Blocks.{entered_pages, entered_left, LeavesRun}
use Rattle.entry_reach.proofs.Firsts.{such-is}
use Rattle.entry_reach.proofs.Visiting.{cascaded-none, carried_none, cascaded-add, carried-add}
use Rattle.entry_reach.proofs.Joined.{new_word}
use Rattle.entry_reach.proofs.Reached.{by-reach, sound-to, reached-none, reached-unsound}
use Rattle.entry_reach.proofs.Surveyed.{last-low, last-high, block-unsound}
use Rattle.entry_reach.proofs.Holding.{unsound-answer, named-holds, ends-answer, written-decided}

-- A reach that would end at `last` by stored tops, and within which the star enters, ends there.
entry-ends : (H : Hash) (M : ℕ) (f : File) (s : Star) (last : ℕ) → last ≡ removal_end H M f (H.home s.number) → enters_within H f s last ≡ true → entry_end H M f s ≡ last
unfolding removal_end entry_end
entry-ends H M f s last e enters =
    sym (such-is (λ (q : ℕ). stored_top f.separators H.top q && enters_within H f s q) from (M - 1 - from) last
    (record {
      low = omega (arith, e, found.low);
      high = omega (arith, e, found.high);
      before = λ q a b. rw (found.before q a (omega (arith, e)));
      passes = λ h. rw (top h, enters);
    }))
  where
    from : ℕ
    from = H.home s.number

    found : Such (stored_top f.separators H.top) from (M - 1 - from) (first_such (stored_top f.separators H.top) from (M - 1 - from))
    found = such (stored_top f.separators H.top) from (M - 1 - from)

    top : last < from + (M - 1 - from) → stored_top f.separators H.top last ≡ true
    top h = rw e (found.passes (omega (arith, e)))

-- planned separators of pages from `page` up to the one before e, completed by the stored ones
module _ (d s : List ℕ) (page e M : ℕ) (low : page ≤ e) (high : e ≤ M) (size : length s ≡ M) (long : M ≤ length d) where
  T : List ℕ
  T = take (e - page) (drop page d)

  count-T : length T ≡ e - page
  unfolding T
  count-T = length-take-le (e - page) (drop page d) (rw (length-drop page d) (omega arith))

  front : length (take page s) ≡ page
  front = length-take-le page s (omega arith)

  first-copy : paste d 0 s page ≡ take page s ++ drop page d
  first-copy = ap (λ (i : ℕ). take page s ++ drop i d) (zero-add page)

  kept-front : take e (take page s ++ drop page d) ≡ take page s ++ T
  unfolding T
  kept-front =
      let sum : e ≡ page + (e - page) = omega arith in
      ap (λ (i : ℕ). take i (take page s ++ drop page d)) sum
      ∙ take-add page (e - page) (take page s ++ drop page d)
      ∙ rw (take_at (take page s) (drop page d) page front, drop_at (take page s) (drop page d) page front)

  back : take (M - e) (drop e s) ≡ drop e s
  back = take_all (M - e) (drop e s) (rw (length-drop e s, size) (le_refl (M - e)))

  abbrev completed : List ℕ
  completed = paste (paste d 0 s page) e (drop e s) (M - e)

  in_parts : completed ≡ take page s ++ (T ++ (drop e s ++ drop (e + (M - e)) (take page s ++ drop page d)))
  in_parts = rw (first-copy, kept-front, back) (simp append_assoc)

  past-T : e ≡ page + length T
  past-T = omega (arith, count-T)

  pub completed-kept : take (e - page) (drop page completed) ≡ take (e - page) (drop page d)
  unfolding T
  completed-kept =
      ap (λ (l : List ℕ). take (e - page) (drop page l)) in_parts
      ∙ ap (take (e - page)) (drop_at (take page s) (T ++ (drop e s ++ drop (e + (M - e)) (take page s ++ drop page d))) page front)
      ∙ take_at T (drop e s ++ drop (e + (M - e)) (take page s ++ drop page d)) (e - page) count-T

  pub completed-is : take M completed ≡ written page (take (e - page) (drop page d)) s
  unfolding T written
  completed-is =
      ap (take M) (in_parts ∙ sym (simp append_assoc))
      ∙ take_at (take page s ++ (T ++ drop e s)) (drop (e + (M - e)) (take page s ++ drop page d)) M
      (length-append (take page s) (T ++ drop e s) ∙ omega (arith, front, length-append T (drop e s), count-T, length-drop e s, size))
      ∙ ap (λ (i : ℕ). take page s ++ (T ++ drop i s)) past-T

-- the home that the code tells
pub home-is : (g : Geometry) (k from : ℕ) → from ≡ home_under g k → from ≡ entry_start g.parameters g.growth k
unfolding hash_of
home-is g k from e = e

module _ (p : Parameters) (g : Growth) (f : File) (k : ℕ) (sized : Sized p.places p.pages f) (unheld : Unheld p g f k) where
  pub named-low : entry_start p g k ≤ named_page_lem p g f.separators k
  unfolding named_page_lem
  named-low = first_home (hash_of p g) 0 f.separators k (omega (arith, unheld.named, sized.of_separators))

  pub home-inside : entry_start p g k < p.pages
  home-inside = omega (arith, named-low, unheld.named)

module _ (p : Parameters) (g : Growth) (f : File) (k : ℕ) (valid : valid_parameters p ≡ true) (sized : Sized p.places p.pages f)
    (number : valid_number k ≡ true) (unheld : Unheld p g f k) (last : ℕ) (is : last ≡ block_end p g f (entry_start p g k)) where
  inside-home : entry_start p g k < p.pages
  inside-home = home-inside p g f k sized unheld

  pub run-low : entry_start p g k ≤ last
  run-low = last-low p g f valid sized (entry_start p g k) inside-home last is

  pub run-high : last < p.pages
  run-high = last-high p g f valid sized (entry_start p g k) inside-home last is

  -- an unsound page of the run
  pub run-unsound : (word owner bad : ℕ) → bad ≡ first_unsound_lem p g f (entry_start p g k) (last + 1 - entry_start p g k) → bad < last + 1
      → (outcome·Unsound bad ≡ entry_answer p g f (new_star_lem k word owner)) × (f ≡ entry_file p g f (new_star_lem k word owner))
  run-unsound word owner bad e h =
      unsound-answer p g f k word owner bad
      (reached-unsound p g f k valid sized number unheld (entry_start p g k) (entry_start p g k) [] [] (new_word p g f k ∷ []) (reached-none p g f k valid sized number unheld [] [] inside-home) bad
      (block-unsound p g f valid sized (entry_start p g k) inside-home last is bad e h) word owner)

  -- none of its sound pages could have a higher separator: they are the rule's
  module _ (sound : (q : ℕ) → entry_start p g k ≤ q → q ≤ last → sound_at p g f q ≡ true) where
    run_sound : AllSound valid_word (hash_of p g) f (entry_start p g k) (pages_to (entry_start p g k) last)
    run_sound q a h = real_facts p g f q (sound q a (omega (arith, run-low)))

    run-count : last + 1 - entry_start p g k ≡ pages_to (entry_start p g k) last
    run-count = omega (arith, run-low)

    none-rises : (r : ℕ) → r ≡ first_such (raisable_from (hash_of p g) (entry_start p g k) (last + 1 - entry_start p g k) f.separators f.numbers) (entry_start p g k) (last + 1 - entry_start p g k)
        → last + 1 ≤ r → (q : ℕ) → entry_start p g k ≤ q → q < entry_start p g k + pages_to (entry_start p g k) last
        → raisable_from (hash_of p g) (entry_start p g k) (pages_to (entry_start p g k) last) f.separators f.numbers q ≡ false
    none-rises r e h q a b =
        let found = such (raisable_from (hash_of p g) (entry_start p g k) (last + 1 - entry_start p g k) f.separators f.numbers) (entry_start p g k) (last + 1 - entry_start p g k) in
        rw run-count at (found.before q a (omega (arith, e, run-low)))

    pub run-ruled : (r : ℕ)
        → r ≡ first_such (raisable_from (hash_of p g) (entry_start p g k) (last + 1 - entry_start p g k) f.separators f.numbers) (entry_start p g k) (last + 1 - entry_start p g k)
        → last + 1 ≤ r
        → pages_at p.places f (entry_start p g k) (pages_to (entry_start p g k) last)
        ≡ pages (hash_of p g) (entry_start p g k) (pages_to (entry_start p g k) last) (gathered p.places f (entry_start p g k) (pages_to (entry_start p g k) last))
    unfolding hash_of
    run-ruled r e h =
        none-ruled valid_word (hash_of p g) p.pages f sized (entry_start p g k) (pages_to (entry_start p g k) last) (omega (arith, run-low, run-high)) run_sound (none-rises r e h)

    -- the named page lies in the run
    pub named-high : named_page_lem p g f.separators k ≤ last
    unfolding named_page_lem removal_end
    named-high = go (dec_lt last (p.pages - 1)) (dec_lt last named)
      where
        H : Hash
        H = hash_of p g

        named : ℕ
        named = named_page_lem p g f.separators k

        found : Such (stored_top f.separators (hash_of p g).top) (entry_start p g k) (p.pages - 1 - entry_start p g k) (first_such (stored_top f.separators (hash_of p g).top) (entry_start p g k) (p.pages - 1 - entry_start p g k))
        found = such (stored_top f.separators (hash_of p g).top) (entry_start p g k) (p.pages - 1 - entry_start p g k)

        top : last < p.pages - 1 → get_or f.separators last 0 ≡ (hash_of p g).top
        top h = eqb-true (get_or f.separators last 0) (hash_of p g).top (rw is (found.passes (omega (arith, is, run-low))))

        go : Dec (last < p.pages - 1) → Dec (last < named) → named_page_lem p g f.separators k ≤ last
        go (yes h) (yes l) =
            absurd (omega (arith, run-low, zero-add last, past_top (hash_of p g) (bounded-real p g valid) 0 last f.separators k (omega (arith, run-high, sized.of_separators)) (top h) (omega (arith, l, zero-add last))))
        go (yes h) (no l) = omega (arith, l)
        go (no h) l = omega (arith, h, unheld.named)

-- A run of pages that are the rule's.
module _ (p : Parameters) (g : Growth) (f : File) (k page : ℕ) (valid : valid_parameters p ≡ true) (sized : Sized p.places p.pages f)
    (number : valid_number k ≡ true) (unheld : Unheld p g f k) (here : page ≡ named_page_lem p g f.separators k) (last : ℕ) (is : last ≡ block_end p g f (entry_start p g k))
    (sound : (q : ℕ) → entry_start p g k ≤ q → q ≤ last → sound_at p g f q ≡ true)
    (ruled : pages_at p.places f (entry_start p g k) (pages_to (entry_start p g k) last)
    ≡ pages (hash_of p g) (entry_start p g k) (pages_to (entry_start p g k) last) (gathered p.places f (entry_start p g k) (pages_to (entry_start p g k) last)))
    (word owner : ℕ) where
  abbrev from : ℕ
  from = entry_start p g k

  abbrev new : Star
  new = new_star_lem k word owner

  abbrev stars : List Star
  stars = stars_at (hash_of p g).room f page

  abbrev stored : ℕ
  stored = get_or f.separators page 0

  -- the pages of the run below the named page, and those from it on
  abbrev q : ℕ
  q = page - from

  abbrev m : ℕ
  m = last - page

  page-low : from ≤ page
  page-low = omega (arith, here, named-low p g f k sized unheld)

  page-high : page ≤ last
  page-high = omega (arith, here, named-high p g f k valid sized number unheld last is sound)

  page-inside : page < p.pages
  page-inside = omega (arith, here, unheld.named)

  at-page : from + q ≡ page
  at-page = omega (arith, page-low)

  count : pages_to from last ≡ q + suc m
  count = omega (arith, page-low, page-high)

  inside : from + (q + suc m) ≤ p.pages
  inside = omega (arith, page-low, page-high, run-high p g f k valid sized number unheld last is)

  least : from ≤ last
  least = run-low p g f k valid sized number unheld last is

  all : AllSound valid_word (hash_of p g) f from (q + suc m)
  all r a b = real_facts p g f r (sound r a (omega (arith, page-low, page-high)))

  facts : Sound valid_word (hash_of p g) f page
  facts = real_facts p g f page (sound page page-low page-high)

  absent_here : Absent k (stars_at (hash_of p g).room f (named_page_lem p g f.separators k))
  unfolding hash_of stars_at
  absent_here =
      absent_held valid_word (part p.places named f.numbers) (part p.places named f.words) (part p.places named f.owners) k
      (even f.words sized.of_words_lem, even f.owners sized.of_owners) (real_facts p g f named unheld.sound).in_order_lem unheld.absent
    where
      named : ℕ
      named = named_page_lem p g f.separators k

      even : (l : List ℕ) → length l ≡ p.pages * p.places → length (part p.places named f.numbers) ≡ length (part p.places named l)
      even l e = length_part p.places named p.pages f.numbers sized.of_numbers unheld.named ∙ sym (length_part p.places named p.pages l e unheld.named)

  absent : Absent k (gathered p.places f from (q + suc m))
  unfolding hash_of named_page_lem
  absent = absent_named valid_word (hash_of p g) f from (q + suc m) k all absent_here

  said : pages_at p.places f from (q + suc m) ≡ pages (hash_of p g) from (q + suc m) (gathered p.places f from (q + suc m))
  said = subst (λ (n : ℕ). pages_at p.places f from n ≡ pages (hash_of p g) from n (gathered p.places f from n)) count ruled

  above : (i : ℕ) → from ≤ i → i < from + q → below (hash_of p g) i (get_or f.separators i 0) k ≡ false
  unfolding named_page_lem
  above i a h = rw (zero-add i) at (first-before (hash_of p g) 0 i f.separators k (omega (arith, sized.of_separators, inside)) (omega (arith, zero-add i, here, at-page)))

  G : List Star
  G = gathered p.places f from (q + suc m)

  -- what the rule gives the pages of the run and carries past it, in the cascade's terms
  entered-left : entered_left p g f k (q + suc m) word owner ≡ carried_past (hash_of p g) f page (suc m) (new ∷ [])
  unfolding hash_of pour G
  entered-left =
      new-left (hash_of p g) f from q (suc m) G new (gathered-rising valid_word (hash_of p g) f from (q + suc m) all) absent said above
      ∙ ap (λ (l : List Star). pour l (carried_past (hash_of p g) f (from + q) (suc m) (new ∷ [])))
      (ap (left (hash_of p g) from (q + suc m)) (sym (filter-all (λ (x : Star). true) (λ x. refl) G)) ∙ sound-fits valid_word (hash_of p g) f p.pages from (q + suc m) (λ (x : Star). true) sized inside all)
      ∙ ap (λ (n : ℕ). carried_past (hash_of p g) f n (suc m) (new ∷ [])) at-page

  entered-pages : (cs : List Contents) → cs ≡ cascaded (hash_of p g) f page (suc m) (new ∷ []) → length cs ≡ suc m
      → entered_pages p g f k (q + suc m) word owner ≡ pages_at p.places f from q ++ cs
  unfolding hash_of G
  entered-pages cs e size =
      new-pages (hash_of p g) f from q (suc m) G new (gathered-rising valid_word (hash_of p g) f from (q + suc m) all) absent said above
      ∙ ap (written q (cascaded (hash_of p g) f (from + q) (suc m) (new ∷ [])))
      (sym said ∙ pages_at-add p.places f from q (suc m) ∙ ap (λ (l : List Contents). A ++ l) (sym (append-nil Q)))
      ∙ ap (λ (l : List Contents). written q l (A ++ (Q ++ []))) (ap (λ (n : ℕ). cascaded (hash_of p g) f n (suc m) (new ∷ [])) at-page ∙ sym e)
      ∙ written-middle q A Q cs [] (length-pages_at p.places f from q) (size ∙ sym (length-pages_at p.places f (from + q) (suc m)))
      ∙ ap (λ (l : List Contents). A ++ l) (append-nil cs)
    where
      A : List Contents
      A = pages_at p.places f from q

      Q : List Contents
      Q = pages_at p.places f (from + q) (suc m)

  -- newcomers stay on its pages
  module _ (ended : carried_past (hash_of p g) f page (suc m) (new ∷ []) ≡ []) where
    ended-there : carried_past (hash_of p g) f (from + q) (suc m) (new ∷ []) ≡ []
    ended-there = ap (λ (n : ℕ). carried_past (hash_of p g) f n (suc m) (new ∷ [])) at-page ∙ ended

    enters : enters_within (hash_of p g) f new last ≡ true
    unfolding enters_within entering hash_of named_page_lem
    enters =
        ap is_empty
        (subst (λ (n : ℕ). left (hash_of p g) from n (insert new (gathered p.places f from n)) ≡ []) (sym count)
        (stretch-leaves valid_word (hash_of p g) p.pages f sized new q (suc m) inside all said absent (sym here ∙ sym at-page) ended-there))

    last-is : entry_last p g f new ≡ last
    last-is = entry-ends (hash_of p g) p.pages f new last is enters

    run_ends : Ends last ≡ reach_answer p g f new
    unfolding reach_answer
    run_ends =
        ap Ends (sym last-is)
        ∙ sym (by-reach p g f k last least sound word owner true (Unsound (entry_unsound p g f new)) Overflows (Ends (entry_last p g f new)) last-is enters)

    contents : replaced p.places f from (entry_contents p g f new) ≡ replaced p.places f page (cascaded (hash_of p g) f page (suc m) (new ∷ []))
    unfolding entering hash_of named_page_lem
    contents =
        ap (λ (n : ℕ). replaced p.places f from (pages (hash_of p g) from (pages_to from n) (insert new (gathered p.places f from (pages_to from n))))) last-is
        ∙ ap (λ (n : ℕ). replaced p.places f from (pages (hash_of p g) from n (insert new (gathered p.places f from n)))) count
        ∙ stretch-file valid_word (hash_of p g) p.pages f sized new q (suc m) inside all said absent (sym here ∙ sym at-page) ended-there
        ∙ ap (λ (n : ℕ). replaced p.places f n (cascaded (hash_of p g) f n (suc m) (new ∷ []))) at-page

    entered : replaced p.places f page (cascaded (hash_of p g) f page (suc m) (new ∷ [])) ≡ entry_file p g f new
    unfolding entry_file
    entered =
        sym contents
        ∙ sym (by-reach p g f k last least sound word owner true f f (replaced p.places f from (entry_contents p g f new)) last-is enters)

    -- the page answered is the one that the new separators name
    answered : (on : ℕ) → on ≡ named_page_lem p g (entry_file p g f new).separators k → On on ≡ entry_answer p g f new
    answered on e =
        ends-answer p g f k word owner last run_ends on (e ∙ named-holds p g f k word owner last run_ends (omega (arith, page-low, page-inside, sized.of_separators)))

  -- room on the star's own page
  module _ (place : ℕ) (there : place ≡ place_of k (part p.places page f.numbers)) (room : number_at p.places page (p.places - 1) f.numbers ≡ 0) where
    vacant : Vacant p.places page place k f.numbers f.words f.owners
    vacant =
        record {
          ordered = ordered-page p g f sized page page-inside (sound page page-low page-high);
          some = (limits p valid).places_least;
          there = there;
          empty = room;
        }

    -- the page and the new star meet: all stay under the stored separator
    met : meeting (hash_of p g) f page (new ∷ []) ≡ insert new stars
    unfolding meeting insert
    met =
        pour-insert stars new [] (λ t n e. absent_here t (subst (λ (r : ℕ). Memᴰ t (stars_at (hash_of p g).room f r)) here n) e)
        ∙ ap (insert new) (pour-nil 1 stars (rising-sorted 1 stars (sound-rising valid_word (hash_of p g) f page facts)))

    few : length (insert new stars) ≤ (hash_of p g).room
    unfolding hash_of stars_at
    few = omega (arith, length-insert new (stars_at p.places f page), vacant-room vacant)

    stands : (t : Star) → Memᴰ t (insert new stars) → below (hash_of p g) page stored t.number ≡ true
    unfolding named_page_lem
    stands t n =
        ⊎_elim
        (λ (e : t ≡ new). ap (λ (x : Star). below (hash_of p g) page stored x.number) e ∙ at k (sym here))
        (λ (o : Memᴰ t stars). at t.number (facts.here t o))
        (member_insert new stars t n)
      where
        at : (j : ℕ) → named_page_lem p g f.separators j ≡ page → below (hash_of p g) page stored j ≡ true
        at j e = rw (zero-add page) at (first_below (hash_of p g) 0 page f.separators j (omega (arith, page-inside, sized.of_separators)) (e ∙ sym (zero-add page)))

    kept : lowered (hash_of p g) f page (new ∷ []) ≡ stored
    unfolding staying
    kept =
        le_antisymm (lowered-stored (hash_of p g) f page (new ∷ []))
        (lowered-great (hash_of p g) f page (new ∷ []) stored (le_refl stored)
        (rw met (omega (arith, few, length-filter (λ (s : Star). below (hash_of p g) page stored s.number) (insert new stars)))))

    pushed : pushed_to (hash_of p g) f page (new ∷ []) ≡ record { separator = stored; stars = insert new stars }
    unfolding pushed_to staying
    pushed = rw (kept, met, filter-all-on (λ (s : Star). below (hash_of p g) page stored s.number) (insert new stars) stands)

    none-on : pushed_on (hash_of p g) f page (new ∷ []) ≡ []
    unfolding pushed_on passing
    none-on = rw (kept, met) (filter-none-on (λ (s : Star). not (below (hash_of p g) page stored s.number)) (insert new stars) (λ t n. ap not (stands t n)))

    one-page : cascaded (hash_of p g) f page (suc m) (new ∷ []) ≡ record { separator = stored; stars = insert new stars } ∷ []
    unfolding cascaded
    one-page = rw (pushed, none-on) (ap (λ (l : List Contents). record { separator = stored; stars = insert new stars } ∷ l) (nothing m))
      where
        nothing : (n : ℕ) → cascaded (hash_of p g) f (suc page) n [] ≡ []
        nothing zero = refl
        nothing (suc n) = refl

    ended : carried_past (hash_of p g) f page (suc m) (new ∷ []) ≡ []
    unfolding carried_past
    ended = ap (carried_past (hash_of p g) f (suc page) m) none-on ∙ nothing m
      where
        nothing : (n : ℕ) → carried_past (hash_of p g) f (suc page) n [] ≡ []
        nothing zero = refl
        nothing (suc n) = refl

    put-file : with_stars p.places f page (insert new (stars_there p.places f page)) ≡ entry_file p g f new
    unfolding hash_of stars_at
    put-file =
        file-alone p.places f page stored (insert new (stars_there p.places f page)) _ _ _ (omega (arith, page-inside, sized.of_separators)) refl refl refl refl
        ∙ ap (replaced p.places f page) (sym one-page)
        ∙ entered ended

    -- the star is put on its own page
    pub run-decided : (pool planned : List ℕ) → DecidesEntry p g f new pool planned (Put page place)
    run-decided pool planned =
        record {
          answers = answered ended page (here ∙ ap (λ (x : File). named_page_lem p g x.separators k) put-file);
          files = put-file;
          feasible = (page-inside, vacant);
        }

  -- newcomers pushed up to page `end`
  module _ (pool planned : List ℕ) (end : ℕ) (low : page ≤ end) (high : end ≤ last) (P : PushedTo p g f k word owner page pool planned end) where
    abbrev n : ℕ
    n = pages_to page end

    abbrev over : ℕ
    over = last - end

    sum : suc m ≡ n + over
    sum = omega (arith, low, high)

    none_over : carried_past (hash_of p g) f page (suc m) (new ∷ []) ≡ []
    none_over =
        ap (λ (i : ℕ). carried_past (hash_of p g) f page i (new ∷ [])) sum
        ∙ carried-add (hash_of p g) f page n over (new ∷ [])
        ∙ ap (carried_past (hash_of p g) f (page + n) over) P.within
        ∙ carried_none (hash_of p g) f (page + n) over

    visited : cascaded (hash_of p g) f page (suc m) (new ∷ []) ≡ cascaded (hash_of p g) f page n (new ∷ [])
    visited =
        ap (λ (i : ℕ). cascaded (hash_of p g) f page i (new ∷ [])) sum
        ∙ cascaded-add (hash_of p g) f page n over (new ∷ [])
        ∙ ap (λ (l : List Star). cascaded (hash_of p g) f page n (new ∷ []) ++ cascaded (hash_of p g) f (page + n) over l) P.within
        ∙ ap (λ (cs : List Contents). cascaded (hash_of p g) f page n (new ∷ []) ++ cs) (cascaded-none (hash_of p g) f (page + n) over)
        ∙ append-nil (cascaded (hash_of p g) f page n (new ∷ []))

    pushed-file : applied p.places page n k word owner pool planned f ≡ entry_file p g f new
    pushed-file = P.applies ∙ ap (replaced p.places f page) (sym visited) ∙ entered none_over

    -- with separators planned elsewhere too, and the page that they name
    pub pushed-decided : (planned' : List ℕ) (on : ℕ) → p.pages ≤ length planned'
        → take (end + 1 - page) (drop page planned') ≡ take (end + 1 - page) (drop page planned)
        → on ≡ named_page_lem p g (written page (take (end + 1 - page) (drop page planned)) f.separators) k
        → DecidesEntry p g f new pool planned' (Planned page (end + 1 - page) on)
    pushed-decided planned' on long same named =
        let count : end + 1 - page ≡ n = omega (arith, low) in
        written-decided p g f k word owner last (run_ends none_over) pool planned planned' page end on (omega (arith, page-low, page-inside, sized.of_separators)) low
        (omega (arith, high, run-high p g f k valid sized number unheld last is)) long (rw count pushed-file) same named

-- Newcomers that leave such a run.
module _ (p : Parameters) (g : Growth) (f : File) (k page : ℕ) (valid : valid_parameters p ≡ true) (sized : Sized p.places p.pages f)
    (number : valid_number k ≡ true) (unheld : Unheld p g f k) (here : page ≡ named_page_lem p g f.separators k) (last : ℕ) (is : last ≡ block_end p g f (entry_start p g k))
    (sound : (q : ℕ) → entry_start p g k ≤ q → q ≤ last → sound_at p g f q ≡ true)
    (ruled : pages_at p.places f (entry_start p g k) (pages_to (entry_start p g k) last)
    ≡ pages (hash_of p g) (entry_start p g k) (pages_to (entry_start p g k) last) (gathered p.places f (entry_start p g k) (pages_to (entry_start p g k) last)))
    (pool planned w : List ℕ) (P : Pushed p g f k page pool planned w (pages_to page last)) (some : 0 < length w) where
  low : entry_start p g k ≤ page
  low = omega (arith, here, named-low p g f k sized unheld)

  high : page ≤ last
  high = omega (arith, here, named-high p g f k valid sized number unheld last is sound)

  pub pushed-leaves : LeavesRun p g f k page last pool planned w
  pushed-leaves =
      record {
        ends = is;
        sound =
            subst (λ (n : ℕ). first_unsound_lem p g f (entry_start p g k) (pages_to (entry_start p g k) n) ≡ entry_start p g k + pages_to (entry_start p g k) n) is
            (sound-to p g f k last (omega (arith, low, high)) sound);
        some = some;
        low = high;
        kept = page - entry_start p g k;
        count = pages_to page last;
        at = omega (arith, high);
        spanned =
            record {
              starts = omega (arith, low);
              most = P.most;
              sound = λ q a b. sound q a (omega (arith, b, high));
              contents = P.contents;
              sources = P.sources;
              separators_are = P.separators_are;
              all_sourced = P.all_sourced;
              are = λ word owner.
                  entered-pages p g f k page valid sized number unheld here last is sound ruled word owner (map (mapped (renamed f.words f.owners word owner)) P.contents) (P.are word owner)
                  (length-map P.contents (mapped (renamed f.words f.owners word owner)) ∙ P.size);
              carried = λ word owner. P.carried word owner ∙ sym (entered-left p g f k page valid sized number unheld here last is sound ruled word owner);
              words = P.words;
            };
      }
