-- The loop of the cascade: what stands when it comes to page `at`, and what each of its ways out answers.
use mathlib.Core.Path.{◌≡◌, sym, ap, ◌∙◌}
use mathlib.Core.Bool.{true, false}
use mathlib.Core.List.{List, ◌++◌}
use Prim.Native.Nat.{ℕ, suc, ◌+◌, ◌-◌, ◌*◌, ◌≤◌, ◌<◌}
use native.Mathlib.Nat.{add-zero, one-mul, suc-mul, mul-le-mul, mul-le-mul_right}
use native.Mathlib.Numerals.{add-one}
use native.Mathlib.Omega.{arith}
use lib.Dec.{leb}
use lib.ListN.{length, take, drop, get_or, set, length-append, length-take, length-set}
use lib.Seq.{slice, length-slice, take-suc-set, drop-append-le, length-take-le}
use Rattle.hashing.specs.declared.Parameters.{Parameters}
use Rattle.hashing.specs.declared.Growth.{Growth}
use Rattle.hashing.specs.Limits.{valid_parameters}
use Rattle.hashing.proofs.Bounds.{limits}
use Rattle.pages.specs.Position.{valid_number}
use Rattle.pages.specs.Page.{part}
use Rattle.placement.specs.File.{File}
use Rattle.placement.specs.Shape.{Sized}
use Rattle.placement.proofs.Writing.{length-column}
use Rattle.pages.proofs.Parts.{page-fits}
use Rattle.placement.specs.Hash.{sound_at, named_page_lem}
use Rattle.page_separator.specs.Words.{home_of}
use Rattle.page_separator.specs.Probes.{Probing, words_separator_from}
use Rattle.page_separator.proofs.Lists.{all_append}
use Rattle.page_separator.proofs.Cutting.{separator_fits}
use Rattle.entry_reach.specs.declared.blocks.Reach.TheVariants.{Ends}
use Rattle.entry_reach.specs.Entry.{Unheld, new_star_lem, KnownTo}
use Rattle.entry_reach.proofs.Joined.{new_word}
use Rattle.entry_reach.specs.Pushing.{page_words, lowered_on, Lowered, Pushed}
use Rattle.entry_cascade.specs.Arriving.{Joins, Crowds}
use Rattle.entry_cascade.specs.Cascade.{Stopped, Spilled, Plans}
use Rattle.entry_reach.proofs.Tying.{parted}
use Rattle.entry_reach.proofs.PageWords.{page-near}
use Rattle.entry_reach.proofs.Settled.{lowered-roomy}
use Rattle.entry_cascade.proofs.Loading.{stars-room}
use Rattle.entry_reach.proofs.Pushed.{pushed_none, pushed-next}
use Rattle.entry_reach.proofs.PushLoop.{part-past}
use Rattle.entry_cascade.proofs.Answers.{plans-unsound, plans-overflow, plans-ends, plans-crowded}

-- the pages below `at` are planned, and the words carried on stand from `from` up to `end`
pub record Rolling (p : Parameters) (g : Growth) (f : File) (k page : ℕ) (pool planned W : List ℕ) (at from end : ℕ) : Type 0 where
  pub done : ℕ
  pub place : at ≡ page + done
  pub carried : Pushed p g f k page pool planned (slice from end W) done
  pub some : from < end
  pub within : end ≤ length W
  pub kept : from ≤ done * p.places
  pub come : end ≤ suc (done * p.places)

module _ (p : Parameters) (g : Growth) (f : File) (k page : ℕ) (valid : valid_parameters p ≡ true) (sized : Sized p.places p.pages f)
    (number : valid_number k ≡ true) (unheld : Unheld p g f k) (here : page ≡ named_page_lem p g f.separators k) where
  pub rolling_none : (pool planned W : List ℕ) → 0 < length W → Rolling p g f k page pool planned (set W 0 (new_word p g f k)) page 0 1
  rolling_none pool planned W some =
      record {
        done = 0;
        place = sym (add-zero page);
        carried = rw (take-suc-set W 0 (new_word p g f k) some) (pushed_none p g f k page valid sized number unheld here pool planned);
        some = omega arith;
        within = rw (length-set W 0 (new_word p g f k)) some;
        kept = omega arith;
        come = omega arith;
      }

  module _ (pool planned W : List ℕ) (at from end : ℕ) (R : Rolling p g f k page pool planned W at from end) where
    carried-long : length (slice from end W) ≡ end - from
    carried-long = length-slice from end W R.within

    some-carried : 0 < length (slice from end W)
    some-carried = omega (arith, carried-long, R.some)

    pub rolling_unsound : at < p.pages → sound_at p g f at ≡ false → (word owner : ℕ) → Stopped p g f (new_star_lem k word owner) page at
    rolling_unsound inside bad =
        plans-unsound p g f k page pool planned (slice from end W) R.done R.carried some-carried (omega (arith, R.place)) (rw R.place at bad) at R.place

    pub rolling_overflow : p.pages ≤ at → (word owner : ℕ) → Spilled p g f (new_star_lem k word owner) page
    rolling_overflow last =
        plans-overflow p g f k page pool planned (slice from end W) R.done R.carried (omega (arith, R.place, R.carried.most)) some-carried

    pub rolling_crowded : at < p.pages → length pool ≡ p.pages * p.places → p.pages ≤ length planned → Crowds p g f at end → (word owner : ℕ) → Spilled p g f (new_star_lem k word owner) page
    rolling_crowded inside lp ln c =
        plans-crowded p g f k page valid sized number unheld here pool planned (slice from end W) R.done from end R.carried some-carried
        (omega (arith, R.place)) (rw R.place at c.sound) lp ln carried-long R.kept R.come
        (rw R.place at (stars-room p g f valid sized at inside)) (rw R.place at c.many)

    -- page `at` is sound, and its words have come
    module _ (inside : at < p.pages) (W' : List ℕ) (reach : ℕ) (J : Joins p g f at end W W' reach) where
      reach-within : reach ≤ length W'
      reach-within =
          omega (
            arith,
            ap length J.words,
            length-append (take end W) (page_words p g f at),
            length-take-le end W R.within,
            J.ends,
            length-take reach W',
          )

      -- what probes it
      pub joined : slice from reach W' ≡ slice from end W ++ page_words p g f at
      joined = ap (drop from) J.words ∙ drop-append-le from (take end W) (page_words p g f at) (omega (arith, length-take-le end W R.within, R.some))

      reach-come : reach ≤ suc (R.done * p.places + p.places)
      reach-come = omega (arith, J.ends, R.come, stars-room p g f valid sized at inside)

      pub rolling_probing : length W' ≡ p.pages * p.places → Probing at from reach W'
      rolling_probing lw =
          record {
            order = omega (arith, J.ends, R.some);
            inside = reach-within;
            most = let l = limits p valid in omega (arith, reach-within, lw, mul-le-mul l.pages_most l.places_most);
            page = omega (arith, (limits p valid).pages_most);
            homes =
                rw joined
                (all_append (λ w. leb (home_of w) at) (slice from end W) (page_words p g f at) (rw (← R.place) at R.carried.words.near) (page-near p g f valid sized at inside J.sound));
          }

      module _ (lp : length pool ≡ p.pages * p.places) (ln : p.pages ≤ length planned) (pool' planned' W'' : List ℕ) (r : ℕ)
          (L : Lowered p at (get_or f.separators at 0) (slice from reach W') reach pool pool' planned planned' W'' r) where
        abbrev met : List ℕ
        met = slice from end W ++ page_words p g f at

        abbrev stored : ℕ
        stored = get_or f.separators at 0

        settled : Lowered p at stored met reach pool pool' planned planned' W'' r
        settled = rw joined at L

        next : Pushed p g f k page pool' planned' (slice r reach W'') (R.done + 1)
        next =
            let S : Lowered p (page + R.done) (get_or f.separators (page + R.done) 0) (slice from end W ++ page_words p g f (page + R.done)) reach pool pool' planned planned' W'' r = rw R.place at settled in
            rw S.passed
            (pushed-next p g f k page valid sized number unheld here pool planned (slice from end W) R.done R.carried some-carried
            (omega (arith, R.place)) (rw R.place at J.sound) pool' planned'
            (rw lp (mul-le-mul_right p.places (omega (arith, R.place)))) (omega (arith, R.place)) S.sources S.separator)

        met-long : length met ≡ reach - from
        met-long = length-append (slice from end W) (page_words p g f at) ∙ omega (arith, carried-long, J.ends, R.some)

        -- at most b words stay
        start-least : r ≤ from + p.places
        unfolding lowered_on
        start-least =
            omega (
              arith,
              settled.start,
              parted p at (words_separator_from p at met stored) met,
              separator_fits p at met stored,
              met-long,
              J.ends,
              R.some,
            )

        pub start-most : r ≤ reach
        start-most = omega (arith, settled.start)

        pub rolling_ends : length W'' ≡ length W' → r ≡ reach → Plans p g f k page pool' planned' (Ends at)
        rolling_ends lw e =
            plans-ends p g f k page pool' planned' (slice r reach W'') (R.done + 1) next
            (length-slice r reach W'' (omega (arith, reach-within)) ∙ omega arith) at (omega (arith, R.place)) (omega (arith, R.place))

        pub rolling_next : length W'' ≡ length W' → (r ≡ reach → ⊥) → Rolling p g f k page pool' planned' W'' (at + 1) r reach
        rolling_next lw more =
            record {
              done = R.done + 1;
              place = omega (arith, R.place);
              carried = next;
              some = omega (arith, start-most, more);
              within = omega (arith, reach-within);
              kept = rw (add-one R.done, suc-mul R.done p.places) (omega (arith, start-least, R.kept));
              come = rw (add-one R.done, suc-mul R.done p.places) reach-come;
            }

        -- the sources written stand on page `at`: the pages after it are known as before
        pub rolling_known : (tested : ℕ) → KnownTo p g f pool at tested → KnownTo p g f pool' (at + 1) tested
        rolling_known tested k q a h =
            record {
              sound = (k q (omega arith) h).sound;
              kept = λ i. ap (part p.places q) L.sources ∙ part-past p.places at q _ pool (length-column p.places _ _ (lowered-roomy p at stored (slice from reach W'), tt) ∙ one-mul p.places) (page-fits p.places p.pages at inside lp) a ∙ (k q (omega arith) h).kept i;
            }
