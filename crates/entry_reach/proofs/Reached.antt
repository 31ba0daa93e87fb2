-- The reach of an entry, block after block: what stands when the blocks up to page lo are planned, and what the answers say.
use mathlib.Core.Path.{◌≡◌, refl, sym, ap, ◌∙◌, subst}
use mathlib.Core.Bool.{Bool, true, false, not, cond, ◌&&◌, true≢false}
use mathlib.Core.List.{List, [], ◌∷◌, ◌++◌, map, map-append, append_assoc}
use Prim.Native.Nat.{ℕ, zero, suc, ◌+◌, ◌-◌, ◌*◌, ◌≤◌, ◌<◌}
use native.Mathlib.Nat.{add-zero, zero-add, le_refl, mul-le-mul, mul-le-mul_right, zero-mul, suc-mul}
use native.Mathlib.Decide.{dec_lt}
use native.Mathlib.Omega.{arith}
use lib.Dec.{eqb}
use lib.ListN.{length, take, drop, get_or, length-take}
use borrow.Author.Tests.{le-ltb, lt-ltb, eqb-true, eq-eqb, ne_eqb}
use Rattle.hashing.specs.Home.{home as Home·home}
use Rattle.hashing.specs.Geometry.{multiplier_of}
use Rattle.hashing.specs.declared.Parameters.{Parameters}
use Rattle.hashing.specs.declared.Growth.{Growth}
use Rattle.hashing.specs.Limits.{valid_parameters, valid_growth}
use Rattle.hashing.proofs.Bounds.{limits}
use Rattle.pages.specs.Shape.{stretch}
use Rattle.pages.specs.Position.{valid_number, valid_word}
use Rattle.placement.specs.Rule.{Star, Contents, separators, pages, left, insert}
use Rattle.placement.specs.File.{File, pages_at, gathered, column, replaced}
use Rattle.placement.specs.Shape.{Sized}
use Rattle.placement.specs.Hash.{hash_of, sound_at}
use Rattle.placement.proofs.Mapping.{mapped}
use Rattle.placement.proofs.Probing.{homed-real}
use Rattle.placement.proofs.Composition.{crowded}
use Rattle.placement.proofs.Standing.{length-separators}
use Rattle.placement.proofs.Writing.{Roomy, roomy-append, column-append, separators-append}
use Rattle.placement.proofs.Files.{length-pages_at, roomy-pages, replaced-add}
use Rattle.placement.proofs.Sound.{AllSound, replaced-same}
use Rattle.placement.proofs.Tested.{real_facts}
use Rattle.page_separator.specs.Probes.{homes_up_to}
use Rattle.page_plan.specs.Gather.{stars_in}
use Rattle.page_plan.specs.Plans.{plans, remains, waits, Planned}
use Rattle.page_plan.specs.Sources.{renamed}
use Rattle.page_plan.proofs.Blocks.{plans-blocks}
use Rattle.page_plan.proofs.Stretch.{remains-near, length-plans}
use Rattle.page_plan.proofs.Applying.{applied, applied-is, plans-sourced}
use Rattle.page_plan.proofs.Placed.{stretch-on, taken-on, length-sources, left-count}
use Rattle.reach.proofs.Reaching.{is-empty}
use Rattle.reach.specs.Reach.{is_empty, pages_to, stored_top, removal_end, entering, enters_within, entry_end, first_unsound_lem}
use Rattle.reach.proofs.Search.{Such, such}
use Rattle.entry_reach.specs.declared.blocks.Reach.TheVariants.{Ends, Unsound, Overflows}
use Rattle.entry_reach.specs.Entry.{Unheld, new_star_lem, entry_start, entry_last, entry_count, entry_unsound, entry_contents, by_entry_reach, reach_answer, entry_file, AppliesFrom, block_end, block_count, block_numbers, block_words, BlockSound, PlannedBlock, UnsoundBlock, CrowdedBlock}
use Rattle.entry_reach.specs.Blocks.{Carriable, entered_pages, entered_left, Spanned, ending, Reached, LeavesRun}
use Rattle.entry_reach.proofs.Firsts.{such-is}
use Rattle.entry_reach.proofs.Joined.{sourced-on, new_word, plans_to, remains_to, words-add, new-carried, new-carriable, planned-pages, planned-left, crowds, few-stars}
use Rattle.entry_reach.proofs.Items.{numbers_below, block-sourced, block-grouped, block-above}
use Rattle.entry_reach.proofs.BlockWords.{block-carriable, same_block}

-- the home that the code computes is where the reach starts
pub home-starts : (p : Parameters) (g : Growth) (k : ℕ) → Home·home (multiplier_of p) p g k ≡ entry_start p g k
unfolding hash_of
home-starts p g k = refl

-- a file has items
pub some-items : (p : Parameters) (g : Growth) → valid_parameters p ≡ true → valid_growth p g ≡ true → (k : ℕ) → 0 < p.pages * p.places
some-items p g v w k = let few : 0 < p.pages = omega (arith, homed-real p g v w k) in omega (arith, mul-le-mul few (limits p v).places_least)

-- the answers differ
pub unsound-ends : (page last : ℕ) → Unsound page ≡ Ends last → ⊥
unsound-ends page last e = let z : ◌≡◌ {A = ℕ} 0 1 = cc in omega arith

pub overflows_ends : (last : ℕ) → Overflows ≡ Ends last → ⊥
overflows_ends last e = let z : ◌≡◌ {A = ℕ} 0 1 = cc in omega arith

and-false : (s t : Bool) → s ≡ false → s && t ≡ false
and-false s t e = rw e

and_none : (s : Bool) → s && false ≡ false
and_none true = refl
and_none false = refl

-- a block

module _ (p : Parameters) (g : Growth) (f : File) (lo : ℕ) (inside : lo < p.pages) where
  -- where it ends
  pub block-such : Such (stored_top f.separators (hash_of p g).top) lo (p.pages - 1 - lo) (block_end p g f lo)
  unfolding removal_end
  block-such = such (stored_top f.separators (hash_of p g).top) lo (p.pages - 1 - lo)

  pub block-most : block_end p g f lo < p.pages
  block-most = omega (arith, block-such.high)

  pub block-sum : lo + block_count p g f lo ≡ suc (block_end p g f lo)
  block-sum = omega (arith, block-such.low)

  -- its pages are sound up to the first unsound one
  pub block-sound : (q : ℕ) → lo ≤ q → q < first_unsound_lem p g f lo (block_count p g f lo) → sound_at p g f q ≡ true
  unfolding first_unsound_lem
  block-sound q a b = untrue (sound_at p g f q) ((such (λ (r : ℕ). not (sound_at p g f r)) lo (block_count p g f lo)).before q a b)
    where
      untrue : (t : Bool) → not t ≡ false → t ≡ true
      untrue true e = refl
      untrue false e = absurd (true≢false e)

-- the words carried past it
module _ (p : Parameters) (lo m : ℕ) (w l pool pool' planned planned' W' : List ℕ) (r : ℕ) (P : Planned p lo m w l pool pool' planned planned' W' r) where
  pub planned-near : homes_up_to lo w ≡ true → homes_up_to (lo + m) (take r W') ≡ true
  planned-near h = rw P.passed (rw (zero-add m) at (remains-near p lo l 0 m w (rw (add-zero lo) h)))

  pub planned-few : r ≤ length W'
  planned-few = omega (arith, P.counted, ap length P.passed, length-take r W')

-- the answers

module _ (p : Parameters) (g : Growth) (f : File) (k last : ℕ) (least : entry_start p g k ≤ last)
    (sound : (q : ℕ) → entry_start p g k ≤ q → q ≤ last → sound_at p g f q ≡ true) where
  -- the reach to `last` is sound
  pub sound-to : first_unsound_lem p g f (entry_start p g k) (pages_to (entry_start p g k) last) ≡ entry_start p g k + pages_to (entry_start p g k) last
  unfolding first_unsound_lem
  sound-to =
      sym
      (such-is (λ (r : ℕ). not (sound_at p g f r)) (entry_start p g k) (pages_to (entry_start p g k) last) (entry_start p g k + pages_to (entry_start p g k) last)
      (record {
        low = omega arith;
        high = omega arith;
        before = λ q a b. ap not (sound q a (omega arith));
        passes = λ a. absurd (omega arith);
      }))

  -- what the reach that ends at `last` decides
  pub by-reach : {A : Type 0} (word owner : ℕ) (t : Bool) (unsound overflows enters : A) → entry_last p g f (new_star_lem k word owner) ≡ last → enters_within (hash_of p g) f (new_star_lem k word owner) last ≡ t
      → by_entry_reach p g f (new_star_lem k word owner) unsound overflows enters ≡ cond t enters overflows
  by-reach word owner t unsound overflows enters e w =
      rw (e, w, sound-to, le-ltb (entry_start p g k + pages_to (entry_start p g k) last) (entry_start p g k + pages_to (entry_start p g k) last) (omega arith))

empty-counted : (l : List Star) → is_empty l ≡ eqb (length l) 0
empty-counted [] = refl
empty-counted (s ∷ l) = sym (ne_eqb (suc (length l)) 0 (λ e. omega (arith, e)))

module _ (p : Parameters) (g : Growth) (f : File) (k : ℕ) (valid : valid_parameters p ≡ true) (sized : Sized p.places p.pages f) (number : valid_number k ≡ true) (unheld : Unheld p g f k) where
  pub reached-none : (pool planned : List ℕ) → entry_start p g k < p.pages → Reached p g f k (entry_start p g k) (entry_start p g k) pool planned (new_word p g f k ∷ [])
  reached-none pool planned inside =
      record {
        kept = 0;
        count = 0;
        at = sym (add-zero (entry_start p g k));
        inside = inside;
        spanned =
            record {
              starts = sym (add-zero (entry_start p g k));
              most = omega arith;
              sound = λ q a b. absurd (omega arith);
              contents = [];
              sources = unfold column in ap (λ (n : ℕ). take n (drop (entry_start p g k * p.places) pool)) (zero-mul p.places);
              separators_are = unfold separators in refl;
              all_sourced = tt;
              are = λ word owner. unfold pages pages_at in refl;
              carried = λ word owner. unfold left gathered insert in new-carried p g f k valid sized number unheld word owner;
              words = new-carriable p g f k valid sized number unheld (entry_start p g k + 0) (omega arith);
            };
        ended = λ e a b. absurd (omega arith);
        passed = λ word owner q a b. absurd (omega arith);
      }

  pub reached-first : (pool planned w : List ℕ) (lo : ℕ) → lo ≡ entry_start p g k → w ≡ new_word p g f k ∷ [] → lo < p.pages → Reached p g f k (entry_start p g k) lo pool planned w
  reached-first pool planned w lo at word inside = rw (at, word) (reached-none pool planned (omega (arith, at)))

  module _ (start kept count : ℕ) (pool planned w : List ℕ) (s : Spanned p g f k start kept count pool planned w) where
    -- nothing is carried on exactly if the star enters within these pages
    spanned-within : (word owner last : ℕ) → kept + count ≡ pages_to (entry_start p g k) last → enters_within (hash_of p g) f (new_star_lem k word owner) last ≡ eqb (length w) 0
    unfolding enters_within entering hash_of
    spanned-within word owner last e =
        empty-counted (entered_left p g f k (pages_to (entry_start p g k) last) word owner)
        ∙ ap (λ (n : ℕ). eqb (length (entered_left p g f k n word owner)) 0) (sym e)
        ∙ ap (λ (n : ℕ). eqb n 0) (left-count (renamed f.words f.owners word owner) w (entered_left p g f k (kept + count) word owner) (s.carried word owner))

    all_sound : AllSound valid_word (hash_of p g) f (entry_start p g k) kept
    all_sound q a b = real_facts p g f q (s.sound q a (omega (arith, s.starts)))

    -- the pages that stay need not be written
    spanned-file : (word owner : ℕ) → replaced p.places f (entry_start p g k) (entered_pages p g f k (kept + count) word owner)
        ≡ replaced p.places f start (map (mapped (renamed f.words f.owners word owner)) s.contents)
    unfolding hash_of
    spanned-file word owner =
        ap (replaced p.places f (entry_start p g k)) (s.are word owner)
        ∙ sym (replaced-add p.places p.pages f (entry_start p g k) A C sized roomy (omega (arith, s.most, s.starts)))
        ∙ ap (λ (x : File). replaced p.places x (entry_start p g k + length A) C) (replaced-same valid_word (hash_of p g) f p.pages (entry_start p g k) kept sized (omega (arith, s.most, s.starts)) all_sound)
        ∙ ap (λ (n : ℕ). replaced p.places f n C) (ap (λ (n : ℕ). entry_start p g k + n) (length-pages_at p.places f (entry_start p g k) kept) ∙ sym s.starts)
      where
        A : List Contents
        A = pages_at p.places f (entry_start p g k) kept

        C : List Contents
        C = map (mapped (renamed f.words f.owners word owner)) s.contents

        roomy : Roomy p.places A
        roomy =
            (roomy-append p.places A C
            (rw (s.are word owner) at (roomy-pages (hash_of p g) (entry_start p g k) (kept + count) (insert (new_star_lem k word owner) (gathered p.places f (entry_start p g k) (kept + count)))))).0

  -- the plan of d pages from home, and then of m more
  plans-on : (d m lo : ℕ) → lo ≡ entry_start p g k + d → lo + m ≤ p.pages → ((q : ℕ) → entry_start p g k ≤ q → q < lo + m → sound_at p g f q ≡ true)
      → ((e : ℕ) → entry_start p g k ≤ e → suc e ≡ lo → get_or f.separators e 0 ≡ (hash_of p g).top)
      → (plans_to p g f k (d + m) ≡ plans_to p g f k d ++ plans p lo 0 m (remains_to p g f k d) (block_words p g f lo m))
      × (remains_to p g f k (d + m) ≡ remains p lo 0 m (remains_to p g f k d) (block_words p g f lo m))
  unfolding plans remains
  plans-on zero m lo e inside sound ended = let same : lo ≡ entry_start p g k = e ∙ add-zero (entry_start p g k) in rw (zero-add m, same) (refl, refl)
  plans-on (suc d) m lo e inside sound ended =
      rw (words-add p g f sized (entry_start p g k) (suc d) m (omega (arith, e)), e)
      (plans-blocks p (entry_start p g k) (suc d) m (new_word p g f k ∷ []) (block_words p g f (entry_start p g k) (suc d)) (block_words p g f (entry_start p g k + suc d) m)
      (block-grouped p g f valid sized (entry_start p g k) (suc d) (omega (arith, e)) (λ q a b. sound q a (omega (arith, e))))
      (block-above p g f valid sized (entry_start p g k + suc d) m (omega (arith, e)) (λ q a b. sound q (omega arith) (omega (arith, e))) (entry_start p g k + d) (omega arith)
      (ended (entry_start p g k + d) (omega arith) (omega (arith, e)))))

  -- one more block
  module _ (start kept count : ℕ) (pool planned w : List ℕ) (s : Spanned p g f k start kept count pool planned w) (pool' planned' W' : List ℕ) (m r : ℕ)
      (lp : length pool ≡ p.pages * p.places) (ln : p.pages ≤ length planned) (inside : start + count + m ≤ p.pages)
      (sound : (q : ℕ) → entry_start p g k ≤ q → q < start + count + m → sound_at p g f q ≡ true)
      (ended : (e : ℕ) → entry_start p g k ≤ e → suc e ≡ start + count → get_or f.separators e 0 ≡ (hash_of p g).top)
      (plan : Planned p (start + count) m w (block_words p g f (start + count) m) pool pool' planned planned' W' r) where
    abbrev lo : ℕ
    lo = start + count

    abbrev d : ℕ
    d = kept + count

    abbrev l : List ℕ
    l = block_words p g f lo m

    abbrev new : List Contents
    new = plans p lo 0 m w l

    there : lo ≡ entry_start p g k + d
    there = omega (arith, s.starts)

    whole : kept + (count + m) ≡ d + m
    whole = omega arith

    ending_at : lo + m ≡ start + (count + m)
    ending_at = omega arith

    block-pages : (q : ℕ) → lo ≤ q → q < lo + m → sound_at p g f q ≡ true
    block-pages q a b = sound q (omega (arith, there)) b

    on : (plans_to p g f k (d + m) ≡ plans_to p g f k d ++ plans p lo 0 m (remains_to p g f k d) l) × (remains_to p g f k (d + m) ≡ remains p lo 0 m (remains_to p g f k d) l)
    on = plans-on d m lo there inside sound ended

    past : Carriable p g f k lo (remains_to p g f k d)
    past =
        rw there
        (block-carriable p g f valid sized (entry_start p g k) d (omega (arith, there)) (λ q a b. s.sound q a (omega (arith, there))) k unheld (new_word p g f k ∷ [])
        (new-carriable p g f k valid sized number unheld (entry_start p g k) (le_refl (entry_start p g k))))

    module _ (word owner : ℕ) where
      abbrev rename : Star → Star
      rename = renamed f.words f.owners word owner

      first-pages : entered_pages p g f k d word owner ≡ map (mapped rename) (plans_to p g f k d)
      first-pages = planned-pages p g f k valid sized number unheld d (omega (arith, there)) (λ q a b. s.sound q a (omega (arith, there))) word owner

      first-left : entered_left p g f k d word owner ≡ map rename (waits (remains_to p g f k d))
      first-left = planned-left p g f k valid sized number unheld d (omega (arith, there)) (λ q a b. s.sound q a (omega (arith, there))) word owner

      same : (map (mapped rename) new ≡ map (mapped rename) (plans p lo 0 m (remains_to p g f k d) l)) × (map rename (waits (remains p lo 0 m w l)) ≡ map rename (waits (remains p lo 0 m (remains_to p g f k d) l)))
      same = same_block p g f valid sized lo m inside block-pages k unheld w (remains_to p g f k d) s.words past word owner (s.carried word owner ∙ first-left)

      next-are : entered_pages p g f k (kept + (count + m)) word owner ≡ pages_at p.places f (entry_start p g k) kept ++ map (mapped rename) (s.contents ++ new)
      next-are =
          let A : List Contents = pages_at p.places f (entry_start p g k) kept in
          ap (λ (n : ℕ). entered_pages p g f k n word owner) whole
          ∙ planned-pages p g f k valid sized number unheld (d + m) (omega (arith, there)) (λ q a b. sound q a (omega (arith, there))) word owner
          ∙ ap (map (mapped rename)) on.0
          ∙ map-append (mapped rename) (plans_to p g f k d) (plans p lo 0 m (remains_to p g f k d) l)
          ∙ ap (λ (cs : List Contents). cs ++ map (mapped rename) (plans p lo 0 m (remains_to p g f k d) l)) (sym first-pages ∙ s.are word owner)
          ∙ ap (λ (cs : List Contents). (A ++ map (mapped rename) s.contents) ++ cs) (sym same.0)
          ∙ append_assoc A (map (mapped rename) s.contents) (map (mapped rename) new)
          ∙ ap (λ (cs : List Contents). A ++ cs) (sym (map-append (mapped rename) s.contents new))

      next-carried : map rename (waits (take r W')) ≡ entered_left p g f k (kept + (count + m)) word owner
      next-carried =
          ap (λ (u : List ℕ). map rename (waits u)) plan.passed
          ∙ same.1
          ∙ ap (λ (u : List ℕ). map rename (waits u)) (sym on.1)
          ∙ sym (planned-left p g f k valid sized number unheld (d + m) (omega (arith, there)) (λ q a b. sound q a (omega (arith, there))) word owner)
          ∙ ap (λ (n : ℕ). entered_left p g f k n word owner) (sym whole)

    spanned-next : Spanned p g f k start kept (count + m) pool' planned' (take r W')
    spanned-next =
        record {
          starts = s.starts;
          most = omega arith;
          sound = λ q a b. sound q a (omega arith);
          contents = s.contents ++ new;
          sources =
              ap (stretch p.places start (count + m)) plan.sources
              ∙ stretch-on p.places start count m (column p.places (λ (s : Star). s.payload.word) new) pool (length-sources p lo m w l) (rw lp (mul-le-mul_right p.places (omega arith)))
              ∙ ap (λ (x : List ℕ). x ++ column p.places (λ (s : Star). s.payload.word) new) s.sources
              ∙ sym (column-append p.places (λ (s : Star). s.payload.word) s.contents new);
          separators_are =
              ap (λ (x : List ℕ). take (count + m) (drop start x)) plan.separators_are
              ∙ taken-on start count m (separators new) planned (length-separators new ∙ length-plans p lo 0 m w l) (omega arith)
              ∙ ap (λ (x : List ℕ). x ++ separators new) s.separators_are
              ∙ sym (separators-append s.contents new);
          all_sourced =
              sourced-on f.numbers k s.contents new s.all_sourced
              (plans-sourced f.numbers k p lo 0 m w l s.words.true_sources (block-sourced p g f valid sized lo m inside k (numbers_below p g f valid sized lo m inside block-pages)));
          are = next-are;
          carried = next-carried;
          words = rw (plan.passed, ← ending_at) (block-carriable p g f valid sized lo m inside block-pages k unheld w s.words);
        }

  module _ (start lo : ℕ) (pool planned w : List ℕ) (r : Reached p g f k start lo pool planned w) where
    -- the pages done are those from home to lo
    done : ℕ
    done = r.kept + r.count

    from-home : lo ≡ entry_start p g k + done
    unfolding done
    from-home = omega (arith, r.at, r.spanned.starts)

    last : ℕ
    last = block_end p g f lo

    such-block : Such (stored_top f.separators (hash_of p g).top) lo (p.pages - 1 - lo) last
    unfolding last
    such-block = block-such p g f lo r.inside

    least : entry_start p g k ≤ last
    least = omega (arith, from-home, such-block.low)

    below_last : last < p.pages
    below_last = omega (arith, r.inside, such-block.high)

    -- no page below the block's end is the reach's end
    not-before : (word owner q : ℕ) → entry_start p g k ≤ q → q < last → ending p g f (new_star_lem k word owner) q ≡ false
    not-before word owner q a b = go (dec_lt q lo)
      where
        go : Dec (q < lo) → ending p g f (new_star_lem k word owner) q ≡ false
        go (yes l) = r.passed word owner q a l
        go (no l) = and-false (stored_top f.separators (hash_of p g).top q) (enters_within (hash_of p g) f (new_star_lem k word owner) q) (such-block.before q (omega arith) b)

    abbrev rest : ℕ
    rest = p.pages - 1 - entry_start p g k

    end-such : (word owner : ℕ) → Such (ending p g f (new_star_lem k word owner)) (entry_start p g k) rest (entry_last p g f (new_star_lem k word owner))
    unfolding entry_end
    end-such word owner = such (ending p g f (new_star_lem k word owner)) (entry_start p g k) rest

    -- the reach goes as far as the block
    end-past : (word owner : ℕ) → last ≤ entry_last p g f (new_star_lem k word owner)
    end-past word owner = go (dec_lt (entry_last p g f (new_star_lem k word owner)) last)
      where
        go : Dec (entry_last p g f (new_star_lem k word owner) < last) → last ≤ entry_last p g f (new_star_lem k word owner)
        go (yes l) = absurd (true≢false (sym ((end-such word owner).passes (omega (arith, below_last))) ∙ not-before word owner (entry_last p g f (new_star_lem k word owner)) (end-such word owner).low l))
        go (no l) = omega arith

    -- it ends there if the star enters within it, or at the last page
    end_is : (word owner : ℕ) → (suc last < p.pages → enters_within (hash_of p g) f (new_star_lem k word owner) last ≡ true) → entry_last p g f (new_star_lem k word owner) ≡ last
    unfolding entry_end
    end_is word owner enters =
        sym
        (such-is (ending p g f (new_star_lem k word owner)) (entry_start p g k) rest last
        (record {
          low = least;
          high = omega (arith, below_last, least);
          before = not-before word owner;
          passes = λ h. rw (such-block.passes (omega (arith, r.inside, such-block.low)), enters (omega arith));
        }))

    -- the pages up to a sound one of the block
    sound-below : (q : ℕ) → entry_start p g k ≤ q → q < first_unsound_lem p g f lo (block_count p g f lo) → sound_at p g f q ≡ true
    sound-below q a b = go (dec_lt q lo)
      where
        go : Dec (q < lo) → sound_at p g f q ≡ true
        go (yes l) = r.spanned.sound q a (omega (arith, r.at))
        go (no l) = block-sound p g f lo r.inside q (omega arith) b

    pub reached-unsound : (page : ℕ) → UnsoundBlock p g f lo page → (word owner : ℕ) → Unsound page ≡ reach_answer p g f (new_star_lem k word owner)
    unfolding reach_answer first_unsound_lem last
    reached-unsound page u word owner =
        let found = such (λ (q : ℕ). not (sound_at p g f q)) lo (block_count p g f lo) in
        let inside : page < entry_start p g k + entry_count p g f (new_star_lem k word owner) = omega (arith, u.inside, end-past word owner, such-block.low, least) in
        let is : page ≡ entry_unsound p g f (new_star_lem k word owner) =
        such-is (λ (q : ℕ). not (sound_at p g f q)) (entry_start p g k) (entry_count p g f (new_star_lem k word owner)) page
        (record {
          low = omega (arith, from-home, u.is, found.low);
          high = omega arith;
          before = λ q a b. ap not (sound-below q a (omega (arith, u.is)));
          passes = λ h. rw u.is (found.passes (omega (arith, u.is, u.inside)));
        }) in
        rw (← is, lt-ltb page (entry_start p g k + entry_count p g f (new_star_lem k word owner)) inside)

    pages_here : ℕ
    pages_here = pages_to (entry_start p g k) last

    same_count : done + block_count p g f lo ≡ pages_here
    unfolding last pages_here
    same_count = omega (arith, from-home, such-block.low)

    few-pages : entry_start p g k + pages_here ≤ p.pages
    unfolding pages_here
    few-pages = omega (arith, below_last, least)

    all-sound-to : BlockSound p g f lo → (q : ℕ) → entry_start p g k ≤ q → q ≤ last → sound_at p g f q ≡ true
    unfolding last
    all-sound-to e q a h = sound-below q a (omega (arith, e, such-block.low))

    pages-sound : BlockSound p g f lo → (q : ℕ) → entry_start p g k ≤ q → q < entry_start p g k + pages_here → sound_at p g f q ≡ true
    unfolding pages_here
    pages-sound e q a h = all-sound-to e q a (omega (arith, least))

    -- the block's stars and those carried on are more than all places: the reach runs to the last page, and its stars do not fit
    module _ (c : CrowdedBlock p g f lo w) (word owner : ℕ) where
      stars : List Star
      stars = insert (new_star_lem k word owner) (gathered p.places f (entry_start p g k) pages_here)

      many : p.pages * p.places < length stars
      unfolding stars
      many =
          let more : length (entered_left p g f k done word owner) + stars_in 0 (block_numbers p f lo (block_count p g f lo)) ≤ length (insert (new_star_lem k word owner) (gathered p.places f (entry_start p g k) pages_here)) =
          subst (λ (x : ℕ). length (entered_left p g f k done word owner) + stars_in 0 (block_numbers p f lo (block_count p g f lo)) ≤ length (insert (new_star_lem k word owner) (gathered p.places f (entry_start p g k) x))) same_count
          (subst (λ (x : ℕ). length (entered_left p g f k done word owner) + stars_in 0 (block_numbers p f x (block_count p g f lo)) ≤ length (insert (new_star_lem k word owner) (gathered p.places f (entry_start p g k) (done + block_count p g f lo)))) (sym from-home)
          (crowds p g f k valid sized number unheld done (block_count p g f lo) (omega (arith, same_count, few-pages)) (λ q a b. pages-sound c.sound q a (omega (arith, same_count))) word owner)) in
          omega (arith, more, c.many, left-count (renamed f.words f.owners word owner) w (entered_left p g f k done word owner) (unfold done in r.spanned.carried word owner))

      -- so the reach has all pages
      all-pages : suc last ≡ p.pages
      unfolding pages_here stars
      all-pages = go (dec_lt pages_here p.pages)
        where
          go : Dec (pages_here < p.pages) → suc last ≡ p.pages
          go (yes l) =
              absurd (omega (
                arith,
                many,
                few-stars p g f k valid sized number unheld pages_here few-pages (pages-sound c.sound) word owner,
                suc-mul pages_here p.places,
                mul-le-mul_right {m = suc pages_here} {n = p.pages} p.places l,
                (limits p valid).places_least,
              ))
          go (no l) = omega (arith, below_last, least)

      no_place : enters_within (hash_of p g) f (new_star_lem k word owner) last ≡ false
      unfolding enters_within entering hash_of stars pages_here
      no_place = go (is_empty rest_of) refl
        where
          rest_of : List Star
          rest_of = left (hash_of p g) (entry_start p g k) pages_here stars

          go : (t : Bool) → is_empty rest_of ≡ t → is_empty rest_of ≡ false
          go true e = absurd (crowded (hash_of p g) (entry_start p g k) pages_here stars (omega (arith, many, mul-le-mul_right {m = pages_here} {n = p.pages} p.places (omega (arith, few-pages)))) (is-empty rest_of e))
          go false e = e

      pub reached-crowded : Overflows ≡ reach_answer p g f (new_star_lem k word owner)
      unfolding reach_answer
      reached-crowded =
          sym (by-reach p g f k last least (all-sound-to c.sound) word owner false (Unsound (entry_unsound p g f (new_star_lem k word owner))) Overflows (Ends (entry_last p g f (new_star_lem k word owner)))
          (end_is word owner (λ l. absurd (omega (arith, l, all-pages)))) no_place)

    -- the pages to the block's end are planned
    module _ (stop start' kept' count' : ℕ) (pool' planned' w' : List ℕ) (is : stop ≡ block_end p g f lo) (clear : BlockSound p g f lo) (low : start' ≤ stop) (sum : suc stop ≡ start' + count')
        (S : Spanned p g f k start' kept' count' pool' planned' w') where
      stop_is : stop ≡ last
      unfolding last
      stop_is = is

      counted : kept' + count' ≡ pages_to (entry_start p g k) last
      counted = omega (arith, S.starts, sum, stop_is, least)

      within_block : (word owner : ℕ) → enters_within (hash_of p g) f (new_star_lem k word owner) last ≡ eqb (length w') 0
      within_block word owner = spanned-within start' kept' count' pool' planned' w' S word owner last counted

      -- nothing is carried on: the reach ends here
      module _ (none : length w' ≡ 0) where
        enters : (word owner : ℕ) → enters_within (hash_of p g) f (new_star_lem k word owner) last ≡ true
        enters word owner = within_block word owner ∙ eq-eqb (length w') 0 none

        end-here : (word owner : ℕ) → entry_last p g f (new_star_lem k word owner) ≡ last
        end-here word owner = end_is word owner (λ _. enters word owner)

        pub reached-ends : (word owner : ℕ) → Ends stop ≡ reach_answer p g f (new_star_lem k word owner)
        unfolding reach_answer
        reached-ends word owner =
            ap Ends (stop_is ∙ sym (end-here word owner))
            ∙ sym (by-reach p g f k last least (all-sound-to clear) word owner true (Unsound (entry_unsound p g f (new_star_lem k word owner))) Overflows (Ends (entry_last p g f (new_star_lem k word owner))) (end-here word owner) (enters word owner))

        entered : (word owner : ℕ) → replaced p.places f (entry_start p g k) (entry_contents p g f (new_star_lem k word owner)) ≡ replaced p.places f start' (map (mapped (renamed f.words f.owners word owner)) S.contents)
        unfolding entering hash_of
        entered word owner =
            ap (λ (q : ℕ). replaced p.places f (entry_start p g k) (entered_pages p g f k (pages_to (entry_start p g k) q) word owner)) (end-here word owner)
            ∙ ap (λ (n : ℕ). replaced p.places f (entry_start p g k) (entered_pages p g f k n word owner)) (sym counted)
            ∙ spanned-file start' kept' count' pool' planned' w' S word owner

        pub reached-applies : AppliesFrom p g f k start' pool' planned' (Ends stop)
        unfolding entry_file
        reached-applies word owner l same_end =
            let e : stop ≡ l = cc in
            let el : l ≡ last = sym e ∙ stop_is in
            let count : pages_to start' l ≡ count' = omega (arith, e, low, sum) in (
              omega (arith, el, below_last),
              ap (λ (n : ℕ). applied p.places start' n k word owner pool' planned' f) count
                  ∙ applied-is p.places start' count' k word owner pool' planned' f S.contents S.sources S.separators_are S.all_sourced
                  ∙ sym (entered word owner)
                  ∙ sym (by-reach p g f k last least (all-sound-to clear) word owner true f f (replaced p.places f (entry_start p g k) (entry_contents p g f (new_star_lem k word owner))) (end-here word owner) (enters word owner)),
            )

      -- a star is carried on
      module _ (some : length w' ≡ 0 → ⊥) where
        stays_out : (word owner : ℕ) → enters_within (hash_of p g) f (new_star_lem k word owner) last ≡ false
        stays_out word owner = within_block word owner ∙ ne_eqb (length w') 0 some

        pub reached-overflows : suc stop ≡ p.pages → (word owner : ℕ) → Overflows ≡ reach_answer p g f (new_star_lem k word owner)
        unfolding reach_answer
        reached-overflows h word owner =
            sym (by-reach p g f k last least (all-sound-to clear) word owner false (Unsound (entry_unsound p g f (new_star_lem k word owner))) Overflows (Ends (entry_last p g f (new_star_lem k word owner)))
            (end_is word owner (λ l. absurd (omega (arith, l, stop_is)))) (stays_out word owner))

        top-there : suc stop < p.pages → (e : ℕ) → entry_start p g k ≤ e → suc e ≡ suc stop → get_or f.separators e 0 ≡ (hash_of p g).top
        top-there h e a n =
            let same-page : e ≡ last = omega (arith, n, stop_is) in
            eqb-true (get_or f.separators e 0) (hash_of p g).top (rw same-page (such-block.passes (omega (arith, stop_is, r.inside))))

        passes-by : (word owner q : ℕ) → entry_start p g k ≤ q → q < suc stop → ending p g f (new_star_lem k word owner) q ≡ false
        passes-by word owner q a l = go (dec_lt q last)
          where
            go : Dec (q < last) → ending p g f (new_star_lem k word owner) q ≡ false
            go (yes h) = not-before word owner q a h
            go (no h) =
                let same-page : q ≡ last = omega (arith, stop_is) in
                rw (same-page, stays_out word owner) (and_none (stored_top f.separators (hash_of p g).top last))

        pub reached-next : suc stop < p.pages → Reached p g f k start' (suc stop) pool' planned' w'
        reached-next h =
            record {
              kept = kept';
              count = count';
              at = sum;
              inside = h;
              spanned = S;
              ended = top-there h;
              passed = passes-by;
            }

    -- the block planned
    module _ (pool' planned' W' : List ℕ) (left : ℕ) (lp : length pool ≡ p.pages * p.places) (ln : p.pages ≤ length planned) (b : PlannedBlock p g f lo w pool pool' planned planned' W' left) where
      reached-block : Spanned p g f k start r.kept (r.count + block_count p g f lo) pool' planned' (take left W')
      reached-block =
          spanned-next start r.kept r.count pool planned w r.spanned pool' planned' W' (block_count p g f lo) left lp ln
          (omega (arith, r.at, block-sum p g f lo r.inside, block-most p g f lo r.inside))
          (λ q a h. all-sound-to b.sound q a (unfold last in omega (arith, r.at, block-sum p g f lo r.inside)))
          (λ e a h. r.ended e a (h ∙ sym r.at))
          (subst (λ (x : ℕ). Planned p x (block_count p g f lo) w (block_words p g f x (block_count p g f lo)) pool pool' planned planned' W' left) r.at b.plan)

      left-long : length (take left W') ≡ left
      left-long = ap length b.plan.passed ∙ sym b.plan.counted

      block-low : start ≤ block_end p g f lo
      block-low = omega (arith, r.at, (block-such p g f lo r.inside).low)

      block_to : suc (block_end p g f lo) ≡ start + (r.count + block_count p g f lo)
      block_to = omega (arith, r.at, block-sum p g f lo r.inside)

      module _ (stop : ℕ) (is : stop ≡ block_end p g f lo) where
        low-stop : start ≤ stop
        low-stop = omega (arith, is, block-low)

        to-stop : suc stop ≡ start + (r.count + block_count p g f lo)
        to-stop = ap suc is ∙ block_to

        abbrev count : ℕ
        count = r.count + block_count p g f lo

        pub block-ends : left ≡ 0 → (word owner : ℕ) → Ends stop ≡ reach_answer p g f (new_star_lem k word owner)
        block-ends none = reached-ends stop start r.kept count pool' planned' (take left W') is b.sound low-stop to-stop reached-block (left-long ∙ none)

        pub block-applies : left ≡ 0 → AppliesFrom p g f k start pool' planned' (Ends stop)
        block-applies none = reached-applies stop start r.kept count pool' planned' (take left W') is b.sound low-stop to-stop reached-block (left-long ∙ none)

        pub block-overflows : (left ≡ 0 → ⊥) → suc stop ≡ p.pages → (word owner : ℕ) → Overflows ≡ reach_answer p g f (new_star_lem k word owner)
        block-overflows some = reached-overflows stop start r.kept count pool' planned' (take left W') is b.sound low-stop to-stop reached-block (λ e. some (sym left-long ∙ e))

        pub block-next : (left ≡ 0 → ⊥) → suc stop < p.pages → Reached p g f k start (suc stop) pool' planned' (take left W')
        block-next some = reached-next stop start r.kept count pool' planned' (take left W') is b.sound low-stop to-stop reached-block (λ e. some (sym left-long ∙ e))

  -- words that leave the run from home
  module _ (page last : ℕ) (pool planned w : List ℕ) (L : LeavesRun p g f k page last pool planned w) where
    leaves-inside : entry_start p g k < p.pages
    leaves-inside = omega (arith, L.spanned.starts, L.spanned.most, L.at, L.low)

    abbrev start : Reached p g f k (entry_start p g k) (entry_start p g k) [] [] (new_word p g f k ∷ [])
    start = reached-none [] [] leaves-inside

    pub leaves-overflows : suc last ≡ p.pages → (word owner : ℕ) → Overflows ≡ reach_answer p g f (new_star_lem k word owner)
    leaves-overflows =
        reached-overflows (entry_start p g k) (entry_start p g k) [] [] (new_word p g f k ∷ []) start last page L.kept L.count pool planned w L.ends L.sound L.low L.at L.spanned
        (λ e. omega (arith, e, L.some))

    pub leaves-next : (lo : ℕ) → lo ≡ suc last → lo < p.pages → Reached p g f k page lo pool planned w
    leaves-next lo at inside =
        rw at
        (reached-next (entry_start p g k) (entry_start p g k) [] [] (new_word p g f k ∷ []) start last page L.kept L.count pool planned w L.ends L.sound L.low L.at L.spanned
        (λ e. omega (arith, e, L.some)) (omega (arith, at)))
