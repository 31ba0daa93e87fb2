-- What a page of the cascade keeps and carries on, over the words and over their stars, and where its sources and its separator are written.
use mathlib.Core.Path.{◌≡◌, refl, ap, ◌∙◌}
use mathlib.Core.Bool.{true}
use mathlib.Core.List.{List, [], ◌∷◌, ◌++◌, map}
use Prim.Native.Nat.{ℕ, ◌+◌, ◌*◌, ◌≤◌, ◌<◌}
use lib.Dec.{leb}
use lib.ListN.{length, take, drop, get_or, set}
use Rattle.pages.specs.Shape.{stretch}
use Rattle.buffers.proofs.Written.{set-written}
use Rattle.hashing.specs.declared.Parameters.{Parameters}
use Rattle.hashing.specs.declared.Growth.{Growth}
use Rattle.hashing.specs.Limits.{valid_parameters}
use Rattle.placement.specs.Rule.{Star, Contents, separators}
use Rattle.placement.specs.File.{File, padded, column, written}
use Rattle.placement.specs.Shape.{Sized}
use Rattle.placement.specs.Hash.{sound_at, hash_of}
use Rattle.placement.proofs.Mapping.{mapped}
use Rattle.placement.proofs.Writing.{length-column}
use Rattle.reach.specs.Cascade.{lowered, pushed_to, pushed_on}
use Rattle.page_separator.specs.Words.{source_of, home_of}
use Rattle.page_plan.specs.declared.settling.Settled.{Settled}
use Rattle.page_separator.specs.Probes.{staying_words, words_separator_from, homes_up_to}
use Rattle.page_plan.specs.Settle.{Settlement}
use Rattle.page_separator.proofs.Lists.{all_append}
use Rattle.page_separator.proofs.Cutting.{separator_fits}
use Rattle.page_plan.specs.Plans.{waits, homed}
use Rattle.page_plan.specs.Sources.{renamed}
use Rattle.page_plan.proofs.Applying.{renamed_keeps}
use Rattle.page_plan.proofs.Pouring.{length-waits}
use Rattle.page_plan.proofs.RuleOverWords.{homed-append}
use Rattle.page_plan.proofs.Stretch.{sources_column}
use Rattle.page_plan.proofs.Placed.{probes-real, stretch-on, taken-on}
use Rattle.entry_reach.specs.Entry.{Unheld}
use Rattle.entry_reach.specs.Blocks.{apart}
use Rattle.entry_reach.specs.Pushing.{page_words, lowered_to, lowered_on, Lowered}
use Rattle.entry_reach.proofs.Tying.{stay_tie, pass_tie, lower-tie}
use Rattle.entry_reach.proofs.PageWords.{page-homed, page-near, page-meets}

-- where it is written

pub page-lowered : (p : Parameters) (q most : ℕ) (l : List ℕ) (reach : ℕ) (W W' slots pool pool' planned : List ℕ) (r : Settled)
    → Settlement p q (words_separator_from p q l most) l reach W W' slots r
    → pool' ≡ written (q * p.places) (padded p.places (map source_of (take r.kept slots))) pool → q < length planned
    → Lowered p q most l reach pool pool' planned (set planned q r.separator) W' r.from
unfolding lowered_to lowered_on separators
page-lowered p q most l reach W W' slots pool pool' planned r S e h =
    record {
      sources =
          e
          ∙ ap (λ (s : List ℕ). written (q * p.places) s pool)
          (sources_column p.places (words_separator_from p q l most) r.kept slots (staying_words p q (words_separator_from p q l most) l) S.page);
      separator = set-written planned q r.separator h ∙ ap (λ (s : ℕ). written q (s ∷ []) planned) S.separator;
      start = S.start;
      passed = S.passed;
    }

-- at most b stay
pub lowered-roomy : (p : Parameters) (q most : ℕ) (l : List ℕ) → length (lowered_to p q most l).stars ≤ p.places
unfolding lowered_to
lowered-roomy p q most l = rw (length-waits (staying_words p q (words_separator_from p q l most) l)) (separator_fits p q l most)

-- a stretch that goes on with one page
pub sources_on : (b lo n : ℕ) (c : Contents) (d : List ℕ) → length c.stars ≤ b → (lo + n) * b ≤ length d
    → stretch b lo (n + 1) (written ((lo + n) * b) (column b (λ (s : Star). s.payload.word) (c ∷ [])) d) ≡ stretch b lo n d ++ column b (λ (s : Star). s.payload.word) (c ∷ [])
sources_on b lo n c d r h =
    stretch-on b lo n 1 (column b (λ (s : Star). s.payload.word) (c ∷ [])) d (length-column b (λ (s : Star). s.payload.word) (c ∷ []) (r, tt)) h

pub separators-on : (lo n : ℕ) (c : Contents) (d : List ℕ) → lo + n ≤ length d
    → take (n + 1) (drop lo (written (lo + n) (separators (c ∷ [])) d)) ≡ take n (drop lo d) ++ separators (c ∷ [])
unfolding separators
separators-on lo n c d h = taken-on lo n 1 (c.separator ∷ []) d refl h

-- what it is

module _ (p : Parameters) (g : Growth) (f : File) (valid : valid_parameters p ≡ true) (sized : Sized p.places p.pages f)
    (q : ℕ) (inside : q < p.pages) (sound : sound_at p g f q ≡ true) (k : ℕ) (unheld : Unheld p g f k)
    (w : List ℕ) (hw : homed (hash_of p g) w ≡ true) (nw : homes_up_to q w ≡ true) (before : apart p g f k q w ≡ true) where
  abbrev met : List ℕ
  met = w ++ page_words p g f q

  abbrev stored : ℕ
  stored = get_or f.separators q 0

  pub met-homed : homed (hash_of p g) met ≡ true
  met-homed = homed-append (hash_of p g) p (probes-real p g) w (page_words p g f q) hw (page-homed p g f valid sized q inside sound)

  pub met-near : homes_up_to q met ≡ true
  met-near = all_append (λ x. leb (home_of x) q) w (page_words p g f q) nw (page-near p g f valid sized q inside sound)

  module _ (word owner : ℕ) where
    abbrev rename : Star → Star
    rename = renamed f.words f.owners word owner

    lowers : lowered (hash_of p g) f q (map rename (waits w)) ≡ words_separator_from p q met stored
    unfolding lowered
    lowers =
        rw (← page-meets p g f valid sized q inside sound k unheld w before word owner)
        (lower-tie (hash_of p g) p (probes-real p g) rename (renamed_keeps f.words f.owners word owner) q met met-homed met-near stored)

    pub pushes_to : pushed_to (hash_of p g) f q (map rename (waits w)) ≡ mapped rename (lowered_to p q stored met)
    unfolding pushed_to lowered_to
    pushes_to =
        rw (
          lowers,
          ← page-meets p g f valid sized q inside sound k unheld w before word owner,
          stay_tie (hash_of p g) p (probes-real p g) rename (renamed_keeps f.words f.owners word owner) q met met-homed met-near (words_separator_from p q met stored),
        )

    pub pushes_on : pushed_on (hash_of p g) f q (map rename (waits w)) ≡ map rename (waits (lowered_on p q stored met))
    unfolding pushed_on lowered_on
    pushes_on =
        rw (lowers, ← page-meets p g f valid sized q inside sound k unheld w before word owner)
        (pass_tie (hash_of p g) p (probes-real p g) rename (renamed_keeps f.words f.owners word owner) q met met-homed met-near (words_separator_from p q met stored))
