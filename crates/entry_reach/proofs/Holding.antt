-- The page that holds the new star is the page that the new separators name; and what the reach's answer says of the entry's.
use mathlib.Core.Path.{◌≡◌, refl, sym, ap, ◌∙◌}
use mathlib.Core.Bool.{Bool, true, false, cond, ◌||◌, false≢true}
use mathlib.Core.List.Memᴰ
use mathlib.Core.List.{List, [], ◌∷◌, ◌++◌, map, Memᴰ}
use mathlib.Core.Logic.{⊎_elim}
use Prim.Native.Nat.{ℕ, zero, suc, ◌+◌, ◌-◌, ◌*◌, ◌≤◌, ◌<◌}
use native.Mathlib.Nat.{add-zero, zero-add}
use native.Mathlib.Decide.{dec_lt}
use native.Mathlib.Omega.{arith}
use lib.Dec.{eqb, ltb}
use lib.ListN.{length, take, drop, get_or, length-append, length-drop, take-append-drop}
use lib.Seq.{drop_at, length-take-le}
use borrow.Author.Tests.{eqb-true, eq-eqb}
use Rattle.buffers.specs.Lists.{written}
use Rattle.buffers.proofs.Lists.{drop-take}
use Rattle.buffers.proofs.Written.{taken-written}
use Rattle.pages.specs.Shape.{stretch}
use Rattle.hashing.specs.declared.Parameters.{Parameters}
use Rattle.hashing.specs.declared.Growth.{Growth}
use Rattle.placement.specs.Rule.{Star, Hash, Contents, separators, pages, left, first}
use Rattle.placement.specs.Shape.{blank}
use Rattle.placement.specs.File.{File, gathered, replaced}
use Rattle.placement.specs.Shape.{Sized}
use Rattle.placement.specs.Hash.{named_page_lem, lent, hash_of}
use Rattle.placement.proofs.Composition.{length-pages}
use Rattle.placement.proofs.Order.{inserted}
use Rattle.placement.proofs.Standing.{length-separators, looked_up_lem, one_place, first-home-on, first-append}
use Rattle.page_plan.specs.Sources.{named_item}
use Rattle.page_plan.proofs.Applying.{applied}
use Rattle.reach.proofs.Reaching.{is-empty}
use Rattle.reach.specs.Reach.{pages_to, entering, enters_within, entry_end, has_number, holding}
use Rattle.reach.proofs.Search.{Such, such}
use Rattle.entry_reach.specs.declared.blocks.Reach.TheVariants.{Ends, Unsound, Overflows}
use Rattle.page_plan.specs.declared.outcome.Outcome.TheVariants.{On, Unsound as outcome·Unsound, Overflows as outcome·Overflows}
use Rattle.entry_reach.specs.Entry.{new_star_lem, entry_start, entry_last, entry_count, entry_unsound, entry_contents, reach_answer, entry_answer, entry_file, Applies, DecidesEntry}
use Rattle.decision.specs.declared.chosen.Decision.TheVariants.{Planned}
use Rattle.entry_reach.specs.Blocks.{ending}
use Rattle.entry_reach.proofs.Reached.{unsound-ends, overflows_ends}

-- a part of a list's front
taken-front : (m a n : ℕ) (l : List ℕ) → a + n ≤ m → take n (drop a (take m l)) ≡ take n (drop a l)
taken-front m a n l h = ap (take n) (drop-take a m l) ∙ front (m - a) n (drop a l) (omega arith)
  where
    front : (m n : ℕ) (l : List ℕ) → n ≤ m → take n (take m l) ≡ take n l
    front m zero l h = refl
    front zero (suc n) l h = absurd (omega arith)
    front (suc m) (suc n) [] h = refl
    front (suc m) (suc n) (x ∷ l) h = ap (λ (t : List ℕ). x ∷ t) (front m n l (omega arith))

-- which page holds a number

pub member_has : (k : ℕ) (l : List Star) (s : Star) → s.number ≡ k → Memᴰ s l → has_number k l ≡ true
unfolding has_number
member_has k [] s e m = absurd (Memᴰ.not-nil m)
member_has k (t ∷ l) s e m =
    ⊎_elim
    (λ (d : s ≡ t). rw (eq-eqb t.number k (sym (ap (λ (x : Star). x.number) d) ∙ e)))
    (λ (d : Memᴰ s l). rw (member_has k l s e d) (or-true (eqb t.number k)))
    (Memᴰ.cases_cons m)
  where
    or-true : (b : Bool) → b || true ≡ true
    or-true true = refl
    or-true false = refl

has_member : (k : ℕ) (l : List Star) → has_number k l ≡ true → (s : Star) × (s.number ≡ k) × Memᴰ s l
unfolding has_number
has_member k [] e = absurd (false≢true e)
has_member k (t ∷ l) e = go (eqb t.number k) refl e (has_member k l)
  where
    go : (b : Bool) → eqb t.number k ≡ b → b || has_number k l ≡ true → (has_number k l ≡ true → (s : Star) × (s.number ≡ k) × Memᴰ s l)
        → (s : Star) × (s.number ≡ k) × Memᴰ s (t ∷ l)
    go true d e ih = (t, eqb-true t.number k d, Memᴰ.head refl)
    go false d e ih = let r = ih e in (r.0, r.1, Memᴰ.tail r.2)

holds_at : (k from i : ℕ) (cs : List Contents) → i < length cs → has_number k (get_or cs i blank).stars ≡ true
    → ((j : ℕ) → j < i → has_number k (get_or cs j blank).stars ≡ false) → holding k from cs ≡ from + i
unfolding holding
holds_at k from i [] h e none = absurd (omega arith)
holds_at k from zero (c ∷ cs) h e none = rw (e, add-zero from)
holds_at k from (suc i) (c ∷ cs) h e none =
    rw (none 0 (omega arith)) (holds_at k (suc from) i cs (omega arith) e (λ j l. none (suc j) (omega arith)) ∙ omega arith)

-- where nothing is left, a waiting star's number is held by the page that the separators name
pub held_first : (H : Hash) (p n : ℕ) (w : List Star) (s : Star) → left H p n w ≡ [] → Memᴰ s w
    → (holding s.number p (pages H p n w) ≡ first H p (separators (pages H p n w)) s.number)
    × (first H p (separators (pages H p n w)) s.number < p + n)
held_first H p n w s e m =
    let r = looked_up_lem H p n w s e m in (
      holds_at s.number p r.0 (pages H p n w) (omega (arith, r.1, length-pages H p n w))
          (member_has s.number (get_or (pages H p n w) r.0 blank).stars s refl r.3)
          (λ j l. alone j r.0 r.1 l r.3)
          ∙ sym r.2,
      omega (arith, r.1, r.2),
    )
  where
    alone : (j i : ℕ) → i < n → j < i → Memᴰ s (get_or (pages H p n w) i blank).stars → has_number s.number (get_or (pages H p n w) j blank).stars ≡ false
    alone j i h l m = go (has_number s.number (get_or (pages H p n w) j blank).stars) refl
      where
        go : (b : Bool) → has_number s.number (get_or (pages H p n w) j blank).stars ≡ b → b ≡ false
        go true d =
            let t = has_member s.number (get_or (pages H p n w) j blank).stars d in
            absurd (omega (arith, one_place H p n j i w t.0 s (omega arith) h t.1 t.2 m))
        go false d = refl

-- the pages cs from a number's home on, written into separators: the page named is one of them
pub first-written : (H : Hash) (a k : ℕ) (vs us : List ℕ) → H.home k ≡ a → a ≤ length us → first H a vs k < a + length vs
    → first H 0 (written a vs us) k ≡ first H a vs k
unfolding written
first-written H a k vs us e h inside =
    sym (rw (zero-add a) at (first-home-on H 0 a (take a us ++ (vs ++ rest)) k (omega (arith, length-append (take a us) (vs ++ rest), size)) (omega (arith, zero-add a))))
    ∙ ap (λ (l : List ℕ). first H a l k) (drop_at (take a us) (vs ++ rest) a size)
    ∙ first-append H a vs rest k inside
  where
    rest : List ℕ
    rest = drop (a + length vs) us

    size : length (take a us) ≡ a
    size = length-take-le a us h

-- the pages from a number's home on begin with those that name one of them
pub first-planned : (H : Hash) (a k : ℕ) (vs us rest : List ℕ) → H.home k ≡ a → drop a us ≡ vs ++ rest → a ≤ length us → first H a vs k < a + length vs
    → first H 0 us k ≡ first H a vs k
first-planned H a k vs us rest e parts h inside =
    sym (rw (zero-add a) at (first-home-on H 0 a us k (omega arith) (omega (arith, zero-add a))))
    ∙ ap (λ (l : List ℕ). first H a l k) parts
    ∙ first-append H a vs rest k inside

-- the answers

unsound-overflows : (page : ℕ) → Unsound page ≡ Overflows → ⊥
unsound-overflows page e = let z : ◌≡◌ {A = ℕ} 0 1 = cc in omega arith

-- which of three things the reach decides, by the answer
unsound-way : {A : Type 0} (t u : Bool) (page bad last : ℕ) (x y z : A) → Unsound page ≡ cond t (Unsound bad) (cond u (Ends last) Overflows)
    → (page ≡ bad) × (cond t x (cond u y z) ≡ x)
unsound-way true u page bad last x y z e = (cc, refl)
unsound-way false true page bad last x y z e = absurd (unsound-ends page last e)
unsound-way false false page bad last x y z e = absurd (unsound-overflows page e)

overflows_way : {A : Type 0} (t u : Bool) (bad last : ℕ) (x y z : A) → Overflows ≡ cond t (Unsound bad) (cond u (Ends last) Overflows)
    → cond t x (cond u y z) ≡ z
overflows_way true u bad last x y z e = absurd (unsound-overflows bad (sym e))
overflows_way false true bad last x y z e = absurd (overflows_ends last e)
overflows_way false false bad last x y z e = refl

ends-way : {A : Type 0} (t u : Bool) (stop bad last : ℕ) (x y z : A) → Ends stop ≡ cond t (Unsound bad) (cond u (Ends last) Overflows)
    → (stop ≡ last) × (u ≡ true) × (cond t x (cond u y z) ≡ y)
ends-way true u stop bad last x y z e = absurd (unsound-ends bad stop (sym e))
ends-way false true stop bad last x y z e = (cc, refl, refl)
ends-way false false stop bad last x y z e = absurd (overflows_ends stop (sym e))

module _ (p : Parameters) (g : Growth) (f : File) (k word owner : ℕ) where
  abbrev unsound_here : Bool
  unsound_here = ltb (entry_unsound p g f (new_star_lem k word owner)) (entry_start p g k + entry_count p g f (new_star_lem k word owner))

  abbrev enters_here : Bool
  enters_here = enters_within (hash_of p g) f (new_star_lem k word owner) (entry_last p g f (new_star_lem k word owner))

  pub unsound-answer : (page : ℕ) → Unsound page ≡ reach_answer p g f (new_star_lem k word owner) → (outcome·Unsound page ≡ entry_answer p g f (new_star_lem k word owner)) × (f ≡ entry_file p g f (new_star_lem k word owner))
  unfolding reach_answer entry_answer entry_file
  unsound-answer page e =
      let a = unsound-way unsound_here enters_here page (entry_unsound p g f (new_star_lem k word owner)) (entry_last p g f (new_star_lem k word owner)) (outcome·Unsound (entry_unsound p g f (new_star_lem k word owner))) (On (holding k (entry_start p g k) (entry_contents p g f (new_star_lem k word owner)))) outcome·Overflows e in
      let b = unsound-way unsound_here enters_here page (entry_unsound p g f (new_star_lem k word owner)) (entry_last p g f (new_star_lem k word owner)) f (replaced p.places f (entry_start p g k) (entry_contents p g f (new_star_lem k word owner))) f e in
      (ap outcome·Unsound a.0 ∙ sym a.1, sym b.1)

  pub overflows_answer : Overflows ≡ reach_answer p g f (new_star_lem k word owner) → (outcome·Overflows ≡ entry_answer p g f (new_star_lem k word owner)) × (f ≡ entry_file p g f (new_star_lem k word owner))
  unfolding reach_answer entry_answer entry_file
  overflows_answer e = (
    sym (overflows_way unsound_here enters_here (entry_unsound p g f (new_star_lem k word owner)) (entry_last p g f (new_star_lem k word owner)) (outcome·Unsound (entry_unsound p g f (new_star_lem k word owner))) (On (holding k (entry_start p g k) (entry_contents p g f (new_star_lem k word owner)))) outcome·Overflows e),
    sym (overflows_way unsound_here enters_here (entry_unsound p g f (new_star_lem k word owner)) (entry_last p g f (new_star_lem k word owner)) f (replaced p.places f (entry_start p g k) (entry_contents p g f (new_star_lem k word owner))) f e),
  )

  module _ (last : ℕ) (e : Ends last ≡ reach_answer p g f (new_star_lem k word owner)) where
    file-way : (last ≡ entry_last p g f (new_star_lem k word owner)) × (enters_here ≡ true) × (entry_file p g f (new_star_lem k word owner) ≡ replaced p.places f (entry_start p g k) (entry_contents p g f (new_star_lem k word owner)))
    unfolding reach_answer entry_file
    file-way = ends-way unsound_here enters_here last (entry_unsound p g f (new_star_lem k word owner)) (entry_last p g f (new_star_lem k word owner)) f (replaced p.places f (entry_start p g k) (entry_contents p g f (new_star_lem k word owner))) f e

    ending-such : Such (ending p g f (new_star_lem k word owner)) (entry_start p g k) (p.pages - 1 - entry_start p g k) (entry_last p g f (new_star_lem k word owner))
    unfolding entry_end
    ending-such = such (ending p g f (new_star_lem k word owner)) (entry_start p g k) (p.pages - 1 - entry_start p g k)

    pub last-least : entry_start p g k ≤ last
    last-least = rw file-way.0 ending-such.low

    -- it ends at no page that the reach passes
    pub last-past : (lo : ℕ) → lo < p.pages → ((q : ℕ) → entry_start p g k ≤ q → q < lo → ending p g f (new_star_lem k word owner) q ≡ false) → lo ≤ last
    last-past lo inside passed = go (dec_lt last lo)
      where
        go : Dec (last < lo) → lo ≤ last
        go (yes l) =
            absurd (false≢true (sym (passed (entry_last p g f (new_star_lem k word owner)) ending-such.low (omega (arith, file-way.0, l))) ∙ ending-such.passes (omega (arith, file-way.0, l, inside))))
        go (no l) = omega (arith, l)

    nothing_left : left (hash_of p g) (entry_start p g k) (entry_count p g f (new_star_lem k word owner)) (entering (hash_of p g) f (new_star_lem k word owner) (entry_last p g f (new_star_lem k word owner))) ≡ []
    unfolding enters_within
    nothing_left = is-empty (left (hash_of p g) (entry_start p g k) (entry_count p g f (new_star_lem k word owner)) (entering (hash_of p g) f (new_star_lem k word owner) (entry_last p g f (new_star_lem k word owner)))) file-way.1

    new-waits : Memᴰ (new_star_lem k word owner) (entering (hash_of p g) f (new_star_lem k word owner) (entry_last p g f (new_star_lem k word owner)))
    unfolding entering
    new-waits = inserted (new_star_lem k word owner) (gathered (hash_of p g).room f (entry_start p g k) (entry_count p g f (new_star_lem k word owner)))

    -- the page that the new separators name
    pub named-holds : entry_start p g k ≤ length f.separators → named_page_lem p g (entry_file p g f (new_star_lem k word owner)).separators k ≡ holding k (entry_start p g k) (entry_contents p g f (new_star_lem k word owner))
    unfolding named_page_lem replaced
    named-holds h =
        let r = held_first (hash_of p g) (entry_start p g k) (entry_count p g f (new_star_lem k word owner)) (entering (hash_of p g) f (new_star_lem k word owner) (entry_last p g f (new_star_lem k word owner))) (new_star_lem k word owner) nothing_left new-waits in
        ap (λ (x : File). first (hash_of p g) 0 x.separators k) file-way.2
        ∙ first-written (hash_of p g) (entry_start p g k) k (separators (entry_contents p g f (new_star_lem k word owner))) f.separators refl h
        (omega (arith, r.1, length-separators (entry_contents p g f (new_star_lem k word owner)), length-pages (hash_of p g) (entry_start p g k) (entry_count p g f (new_star_lem k word owner)) (entering (hash_of p g) f (new_star_lem k word owner) (entry_last p g f (new_star_lem k word owner)))))
        ∙ sym r.0

    pub ends-answer : (page : ℕ) → page ≡ holding k (entry_start p g k) (entry_contents p g f (new_star_lem k word owner)) → On page ≡ entry_answer p g f (new_star_lem k word owner)
    unfolding reach_answer entry_answer
    ends-answer page h =
        ap On h
        ∙ sym (ends-way unsound_here enters_here last (entry_unsound p g f (new_star_lem k word owner)) (entry_last p g f (new_star_lem k word owner)) (outcome·Unsound (entry_unsound p g f (new_star_lem k word owner))) (On (holding k (entry_start p g k) (entry_contents p g f (new_star_lem k word owner)))) outcome·Overflows e).2

    -- separators that have the reach's, elsewhere any
    pub planned-holds : (us : List ℕ) → entry_start p g k ≤ length us
        → take (entry_count p g f (new_star_lem k word owner)) (drop (entry_start p g k) us) ≡ separators (entry_contents p g f (new_star_lem k word owner))
        → named_page_lem p g us k ≡ holding k (entry_start p g k) (entry_contents p g f (new_star_lem k word owner))
    unfolding named_page_lem
    planned-holds us h parts =
        let r = held_first (hash_of p g) (entry_start p g k) (entry_count p g f (new_star_lem k word owner)) (entering (hash_of p g) f (new_star_lem k word owner) (entry_last p g f (new_star_lem k word owner))) (new_star_lem k word owner) nothing_left new-waits in
        let n : ℕ = entry_count p g f (new_star_lem k word owner) in
        first-planned (hash_of p g) (entry_start p g k) k (separators (entry_contents p g f (new_star_lem k word owner))) us (drop n (drop (entry_start p g k) us)) refl
        (sym (take-append-drop n (drop (entry_start p g k) us)) ∙ ap (λ (l : List ℕ). l ++ drop n (drop (entry_start p g k) us)) parts) h
        (omega (arith, r.1, length-separators (entry_contents p g f (new_star_lem k word owner)), length-pages (hash_of p g) (entry_start p g k) (entry_count p g f (new_star_lem k word owner)) (entering (hash_of p g) f (new_star_lem k word owner) (entry_last p g f (new_star_lem k word owner)))))
        ∙ sym r.0

    -- the plan of pages `start` to `end` enters the star, and `planned'` has its separators, elsewhere any
    pub written-decided : (pool planned planned' : List ℕ) (start end on : ℕ) → entry_start p g k ≤ length f.separators → start ≤ end → end < p.pages → p.pages ≤ length planned'
        → applied p.places start (end + 1 - start) k word owner pool planned f ≡ entry_file p g f (new_star_lem k word owner)
        → take (end + 1 - start) (drop start planned') ≡ take (end + 1 - start) (drop start planned)
        → on ≡ named_page_lem p g (written start (take (end + 1 - start) (drop start planned)) f.separators) k
        → DecidesEntry p g f (new_star_lem k word owner) pool planned' (Planned start (end + 1 - start) on)
    unfolding applied
    written-decided pool planned planned' start end on few low high long files same named =
        record {
          answers = ends-answer on (named ∙ ap (λ (x : File). named_page_lem p g x.separators k) files ∙ named-holds few);
          files = rw same files;
          feasible = (omega (arith, low, high), omega (arith, low, high, long));
        }

    -- the separators that the plan has written for the reach
    module _ (pool planned : List ℕ) (sized : Sized p.places p.pages f) (high : last < p.pages) (long : p.pages ≤ length planned) (applies : Applies p g f k pool planned (Ends last)) where
      reach-count : pages_to (entry_start p g k) last ≡ entry_count p g f (new_star_lem k word owner)
      reach-count = ap (pages_to (entry_start p g k)) file-way.0

      fits : entry_start p g k + entry_count p g f (new_star_lem k word owner) ≤ p.pages
      fits = omega (arith, reach-count, last-least)

      separators-planned : take (entry_count p g f (new_star_lem k word owner)) (drop (entry_start p g k) planned) ≡ separators (entry_contents p g f (new_star_lem k word owner))
      unfolding applied replaced
      separators-planned =
          let n : ℕ = entry_count p g f (new_star_lem k word owner) in
          let a : ℕ = entry_start p g k in
          let vs : List ℕ = separators (entry_contents p g f (new_star_lem k word owner)) in
          let few : a ≤ length f.separators = omega (arith, fits, sized.of_separators) in
          let size : length (take n (drop a planned)) ≡ n = length-take-le n (drop a planned) (rw (length-drop a planned) (omega (arith, fits))) in
          let same : written a (take n (drop a planned)) f.separators ≡ written a vs f.separators =
          ap (λ (m : ℕ). written a (take m (drop a planned)) f.separators) (sym reach-count) ∙ ap (λ (x : File). x.separators) ((applies word owner last refl).1 ∙ file-way.2) in
          sym (taken-written a n (take n (drop a planned)) f.separators size few)
          ∙ ap (λ (l : List ℕ). take n (drop a l)) same
          ∙ taken-written a n vs f.separators (length-separators (entry_contents p g f (new_star_lem k word owner)) ∙ length-pages (hash_of p g) a n (entering (hash_of p g) f (new_star_lem k word owner) (entry_last p g f (new_star_lem k word owner)))) few

      within : take (entry_count p g f (new_star_lem k word owner)) (drop (entry_start p g k) (take p.pages planned)) ≡ take (entry_count p g f (new_star_lem k word owner)) (drop (entry_start p g k) planned)
      within = taken-front p.pages (entry_start p g k) (entry_count p g f (new_star_lem k word owner)) planned fits

      pub ends_decided : (from page : ℕ) → from ≡ entry_start p g k → page ≡ named_page_lem p g (take p.pages planned) k → DecidesEntry p g f (new_star_lem k word owner) pool planned (Planned from (last + 1 - from) page)
      ends_decided from page at named =
          let low : from ≤ last = omega (arith, at, last-least) in
          let count : last + 1 - from ≡ pages_to (entry_start p g k) last = omega (arith, at, low) in
          record {
            answers =
                ends-answer page
                (named ∙ planned-holds (take p.pages planned) (omega (arith, fits, length-take-le p.pages planned long)) (within ∙ separators-planned));
            files =
                ap (λ (m : ℕ). applied p.places m (last + 1 - from) k word owner pool planned f) at
                ∙ ap (λ (m : ℕ). applied p.places (entry_start p g k) m k word owner pool planned f) count
                ∙ (applies word owner last refl).1;
            feasible = (omega (arith, low, high), omega (arith, low, high, long));
          }

-- the lists that applying the plan leaves

pub lists-applied : (places lo count k word owner : ℕ) (pool planned : List ℕ) (f : File) (s n w o : List ℕ) → s ≡ written lo (take count (drop lo planned)) f.separators
    → n ≡ written (lo * places) (map (named_item f.numbers k) (stretch places lo count pool)) f.numbers
    → w ≡ written (lo * places) (map (named_item f.words word) (stretch places lo count pool)) f.words
    → o ≡ written (lo * places) (map (named_item f.owners owner) (stretch places lo count pool)) f.owners
    → lent s n w o ≡ applied places lo count k word owner pool planned f
unfolding applied
lists-applied places lo count k word owner pool planned f s n w o es en ew eo = λ i. record { separators = es i; numbers = en i; words = ew i; owners = eo i }
