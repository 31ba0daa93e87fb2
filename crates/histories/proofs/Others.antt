-- An observer's entries, changes and removals leave the stars of others, on every file.
use mathlib.Core.Path.{◌≡◌, refl, sym, ap, ◌∙◌}
use mathlib.Core.Bool.{Bool, true, false, not, cond, ◌&&◌}
use mathlib.Core.List.Memᴰ
use mathlib.Core.List.{List, [], ◌∷◌, Memᴰ}
use mathlib.Core.Logic.{⊎_elim}
use mathlib.Core.Option.{none, some}
use Prim.Native.Nat.{ℕ, zero, suc, ◌+◌, ◌-◌, ◌≤◌}
use native.Mathlib.Omega.{arith}
use lib.Dec.{ltb, eqb}
use lib.ListN.{length}
use borrow.Author.Tests.{eqb-true, ne_eqb}
use Rattle.reports.proofs.Exact.{unless-zero}
use Rattle.hashing.specs.declared.Parameters.{Parameters}
use Rattle.hashing.specs.declared.Growth.{Growth}
use Rattle.hashing.specs.Limits.{valid_parameters, valid_growth}
use Rattle.hashing.proofs.Bounds.{both}
use Rattle.pages.specs.declared.position.Position.{Position}
use Rattle.pages.specs.Position.{valid_number, valid_position, valid_word, packed}
use Rattle.pages.specs.Page.{part}
use Rattle.pages.proofs.Parts.{part-item}
use Rattle.placement.specs.Rule.{Star, Contents, first, pages, left, insert, without}
use Rattle.placement.specs.File.{File, stars_at, gathered, replaced}
use Rattle.placement.specs.Shape.{Sized}
use Rattle.placement.specs.Hash.{hash_of, named_page_lem}
use Rattle.placement.proofs.Standing.{first-le}
use Rattle.placement.proofs.Order.{member_insert, member_without}
use Rattle.placement.proofs.Writing.{length_part}
use Rattle.placement.proofs.Pages.{Numbered}
use Rattle.placement.proofs.Search.{star-held}
use Rattle.placement.proofs.Sound.{AllSound, gathered-member, gathered-proper, sound-fits}
use Rattle.reach.specs.Reach.{is_empty, pages_to, removal_end, entering, enters_within, entry_end, first_unsound_lem}
use Rattle.reach.specs.Cascade.{cascaded, carried_past}
use Rattle.reach.proofs.Reaching.{is-empty, entry-reach, removal_reach_lem}
use Rattle.calls.specs.Answers.{Pool, After, unpooled, cleared}
use Rattle.calls.specs.Calls.{file_fits_lem, pool_fits_lem, unless, or_else, unlent, guarded, readable, named, holds, place_for, item_of, owner_for, may_alter_lem, allowed, enter_to, unless_held, enter_on, entry_refusal, entered, enter_of, cascade_from, cascade_on, cascade_of, change_on, change_of, remove_to, remove_on, remove_of}
use Rattle.calls.specs.declared.records.GrowthRecord.{GrowthRecord}
use Rattle.calls.specs.Records.{valid_steps, unless_open, enter_under, cascade_under, change_under, remove_under}
use Rattle.calls.proofs.Refusals.{unlent-facts, sized}
use Rattle.reports.specs.declared.Report.{Report}
use Rattle.reports.specs.Reports.{waiting, tray_fits_lem, reported_position, is_removal}
use Rattle.reports.specs.TrayCalls.{tray_refusal}
use Rattle.reports.specs.Filing.{removal_filed, position_filed, report_filed, one_more_lem, filed_from, not_filed_lem, filed_unless, left_by, filing_of}
use Rattle.histories.specs.Model.{look_up_lem, enter, cascade, change, remove, grow, shrink, due, check, open_growth_lem, step_growth_lem, caller_of}
use Rattle.histories.specs.Call.{step}
use Rattle.histories.specs.Others.{copies, OthersUntouched, ReportUntouched, FilingUntouched}
use Rattle.histories.proofs.Copies.{count, same-owner, even, count-insert, count_kept, count-other, count_set, ruled-copies, cascaded-copies}
use Rattle.histories.proofs.Alike.{place-below}
use Rattle.histories.proofs.Fitting.{homed, in_range}
use Rattle.histories.proofs.Searching.{all-sound-before}

-- an observer who may alter a star owns it
owns : (caller owner : ℕ) → (caller ≡ 0 → ⊥) → may_alter_lem caller owner ≡ true → owner ≡ caller
unfolding may_alter_lem
owns caller owner observer e = sym (eqb-true caller owner (rw (ne_eqb caller 0 observer) at e))

-- past the refusals 1 to 4
neither : (a b : ℕ) → or_else a b ≡ 0 → (a ≡ 0) × (b ≡ 0)
neither zero b e = (refl, e)
neither (suc a) b e = absurd (omega arith)

module _ (p : Parameters) (g : Growth) (f : File) (caller : ℕ) (observer : caller ≡ 0 → ⊥) (s : Star) (other : s.payload.owner ≡ caller → ⊥) where
  -- what a call leaves holds s as often
  pub record Kept (a : After) : Type 0 where
    pub same : copies s a.file ≡ copies s f

  either : (t : Bool) (a b : After) → (t ≡ true → Kept a) → (t ≡ false → Kept b) → Kept (cond t a b)
  either true a b h k = h refl
  either false a b h k = k refl

  past : (pool : Pool) (n : ℕ) (a : After) → (n ≡ 0 → Kept a) → Kept (guarded g f pool n a)
  past pool zero a h = h refl
  past pool (suc n) a h = record { same = refl }

  -- refused with 13, or else allowed
  allows : (pool : Pool) (page k : ℕ) (a : After) → (owner_for p f page k ≡ caller → Kept a) → Kept (allowed p g f pool page caller k a)
  unfolding allowed
  allows pool page k a h =
      either (may_alter_lem caller (owner_for p f page k)) _ _ (λ may. h (owns caller (owner_for p f page k) observer may)) (λ _. record { same = refl })

  pub change_kept : (pool : Pool) (k : ℕ) (q : Position) → Kept (change_of p g f pool caller k q)
  unfolding change_of change_on copies
  change_kept pool k q =
      past pool (or_else (unlent p g (file_fits_lem p f)) (or_else (unless (valid_number k) 3) (unless (valid_position q) 4)))
      (change_on p g f pool page caller k (packed q))
      (λ _.
      either (readable p g f page) _ _
      (λ _.
      either (holds p f page k) _ _
      (λ _.
      allows pool page k _
      (λ mine. record { same = count_set s (item_of p f page k) (packed q) f.numbers f.words f.owners (λ e. other (sym e ∙ mine)) }))
      (λ _. record { same = refl }))
      (λ _. record { same = refl }))
    where
      page : ℕ
      page = named p g f k

  -- what entries and removals have past refusals 1 and 2
  record Lent : Type 0 where
    parameters : valid_parameters p ≡ true
    growth : valid_growth p g ≡ true
    sizes : Sized p.places p.pages f

  lent : (pool : Pool) (n : ℕ) → or_else (unlent p g (file_fits_lem p f && pool_fits_lem p pool)) n ≡ 0 → Lent
  lent pool n e =
      let t = unlent-facts p g (file_fits_lem p f && pool_fits_lem p pool) (neither (unlent p g (file_fits_lem p f && pool_fits_lem p pool)) n e).0 in
      let v = both _ _ t.0 in
      record { parameters = v.0; growth = v.1; sizes = sized p f (both _ _ t.1).0 }

  -- the stretch of n sound pages laid anew by the rule
  module _ (t : Lent) (from n : ℕ) (inside : from + n ≤ p.pages) (sound : ltb (first_unsound_lem p g f from n) (from + n) ≡ false) where
    abbrev standing : List Star
    standing = gathered p.places f from n

    sounds : AllSound valid_word (hash_of p g) f from n
    sounds = all-sound-before p g f from n sound

    numbered : Numbered standing
    unfolding hash_of
    numbered x m = (gathered-proper valid_word (hash_of p g) f from n sounds x m).0

    ruled-kept : (w : List Star) → Numbered w → left (hash_of p g) from n w ≡ [] → count s w ≡ count s standing
        → copies s (replaced p.places f from (pages (hash_of p g) from n w)) ≡ copies s f
    unfolding hash_of
    ruled-kept w = ruled-copies s (hash_of p g) p.pages from n f w t.sizes inside

    enters-kept : (new : Star) → new.payload.owner ≡ caller → 1 ≤ new.number → left (hash_of p g) from n (insert new standing) ≡ []
        → copies s (replaced p.places f from (pages (hash_of p g) from n (insert new standing))) ≡ copies s f
    enters-kept new mine valid e =
        ruled-kept (insert new standing)
        (λ x m. ⊎_elim (λ (d : x ≡ new). rw d valid) (numbered x) (member_insert new standing x m)) e
        (omega (arith, count-insert s new standing, count-other s new (λ d. other (sym d ∙ mine))))

    -- a star of number k stands on the page named for it, where the search finds its owner
    owner-standing : (k : ℕ) (x : Star) → Memᴰ x standing → x.number ≡ k → x.payload.owner ≡ owner_for p f (named p g f k) k
    unfolding hash_of named_page_lem item_of stars_at
    owner-standing k x m d =
        let q = gathered-member p.places f from n x m in
        let page : ℕ = q.0 in
        let c = sounds page q.1 q.2 in
        let here : named p g f k ≡ page = ap (first (hash_of p g) 0 f.separators) (sym d) ∙ c.here x q.3 in
        let found =
        star-held valid_word (part p.places page f.numbers) (part p.places page f.words) (part p.places page f.owners) x
        (even p.places p.pages f t.sizes (part p.places page) p.places (λ l e. length_part p.places page p.pages l e (omega (arith, q.2))))
        c.in_order_lem q.3 in
        rw (here, ← d)
        (sym found.2 ∙ part-item p.places page f.owners _ (place-below p.places page x.number f.numbers found.0))

    removes-kept : (k : ℕ) → owner_for p f (named p g f k) k ≡ caller
        → copies s (replaced p.places f from (pages (hash_of p g) from n (without k standing))) ≡ copies s f
    unfolding hash_of without
    removes-kept k mine =
        ruled-kept (without k standing)
        (λ x m. numbered x (member_without k standing x m).0)
        (sound-fits valid_word (hash_of p g) f p.pages from n (λ (x : Star). not (eqb x.number k)) t.sizes inside sounds)
        (count_kept s (λ (x : Star). not (eqb x.number k)) standing
        (λ x m e. ap not (ne_eqb x.number k (λ d. other (sym (same-owner s x e) ∙ owner-standing k x m d ∙ mine)))))

  entered-kept : Lent → (pool : Pool) (new : Star) (place : ℕ) → new.payload.owner ≡ caller → 1 ≤ new.number
      → Kept (enter_to p g f pool new place (entry_end (hash_of p g) p.pages f new))
  unfolding enter_to hash_of entering enters_within
  entered-kept t pool new place mine valid =
      either (ltb (first_unsound_lem p g f from n) (from + n)) _ _ (λ _. record { same = refl })
      (λ sound.
      either (enters_within (hash_of p g) f new (entry_end (hash_of p g) p.pages f new)) _ _
      (λ e. record { same = enters-kept t from n (entry-reach (hash_of p g) p.pages f new (homed p g new.number t.parameters t.growth)).high sound new mine valid (is-empty _ e) })
      (λ _. record { same = refl }))
    where
      from : ℕ
      from = (hash_of p g).home new.number

      n : ℕ
      n = pages_to from (entry_end (hash_of p g) p.pages f new)

  removed-kept : Lent → (pool : Pool) (k place : ℕ) → owner_for p f (named p g f k) k ≡ caller
      → Kept (remove_to p g f pool (named p g f k) k place (removal_end (hash_of p g) p.pages f ((hash_of p g).home k)))
  unfolding remove_to hash_of
  removed-kept t pool k place mine =
      either (ltb (first_unsound_lem p g f from n) (from + n)) _ _ (λ _. record { same = refl })
      (λ sound. record { same = removes-kept t from n (removal_reach_lem (hash_of p g) p.pages f from (homed p g k t.parameters t.growth)).high sound k mine })
    where
      from : ℕ
      from = (hash_of p g).home k

      n : ℕ
      n = pages_to from (removal_end (hash_of p g) p.pages f from)

  -- from the page named on, which may be the page past the last
  pushed-kept : Lent → (pool : Pool) (new : Star) (place : ℕ) → new.payload.owner ≡ caller → 1 ≤ new.number
      → Kept (cascade_from p g f pool new place (named p g f new.number))
  unfolding cascade_from hash_of named_page_lem
  pushed-kept t pool new place mine valid =
      either (ltb (first_unsound_lem p g f page (length pushed)) (page + length pushed)) _ _ (λ _. record { same = refl })
      (λ _.
      either (is_empty (carried_past (hash_of p g) f page (p.pages - page) (new ∷ []))) _ _
      (λ e. record {
        same =
            cascaded-copies s (hash_of p g) p.pages page (p.pages - page) f (new ∷ []) t.sizes inside
            (λ x m. rw (Memᴰ.eq_of_singleton m) valid) (is-empty _ e) (count-other s new (λ d. other (sym d ∙ mine)));
      })
      (λ _. record { same = refl }))
    where
      page : ℕ
      page = named p g f new.number

      pushed : List Contents
      pushed = cascaded (hash_of p g) f page (p.pages - page) (new ∷ [])

      inside : page + (p.pages - page) ≤ p.pages
      inside = omega (arith, first-le (hash_of p g) 0 f.separators new.number, t.sizes.of_separators)

  -- past refusals 1 to 4, of a star not held
  entry_kept : (pool : Pool) (k : ℕ) (q : Position) (after : After) → (Lent → 1 ≤ k → Kept after)
      → Kept (guarded g f pool (entry_refusal p g f pool k q) (unless_held p g f (cleared pool) (named p g f k) (entered caller k q) after))
  entry_kept pool k q after h =
      past pool (entry_refusal p g f pool k q) (unless_held p g f (cleared pool) page (entered caller k q) after)
      (λ e.
      let rest = (neither (unlent p g (file_fits_lem p f && pool_fits_lem p pool)) _ e).1 in
      either (readable p g f page) _ _
      (λ _.
      either (holds p f page k) _ _
      (λ _. record { same = refl })
      (λ _. h (lent pool _ e) (in_range k (unless-zero (valid_number k) 2 (neither (unless (valid_number k) 3) _ rest).0)).0))
      (λ _. record { same = refl }))
    where
      page : ℕ
      page = named p g f k

  enter-kept : (pool : Pool) (k : ℕ) (q : Position) → Kept (enter_of p g f pool caller k q)
  unfolding enter_of enter_on
  enter-kept pool k q = entry_kept pool k q _ (λ t valid. entered-kept t (cleared pool) (entered caller k q) (place_for p f (named p g f k) k) refl valid)

  cascade-kept : (pool : Pool) (k : ℕ) (q : Position) → Kept (cascade_of p g f pool caller k q)
  unfolding cascade_of cascade_on
  cascade-kept pool k q = entry_kept pool k q _ (λ t valid. pushed-kept t (cleared pool) (entered caller k q) (place_for p f (named p g f k) k) refl valid)

  remove-kept : (pool : Pool) (k : ℕ) → Kept (remove_of p g f pool caller k)
  unfolding remove_of remove_on
  remove-kept pool k =
      past pool (or_else (unlent p g (file_fits_lem p f && pool_fits_lem p pool)) (unless (valid_number k) 3))
      (remove_on p g f (cleared pool) page caller k)
      (λ e.
      either (readable p g f page) _ _
      (λ _.
      either (holds p f page k) _ _
      (λ _. allows (cleared pool) page k _ (removed-kept (lent pool _ e) (cleared pool) k (place_for p f page k)))
      (λ _. record { same = refl }))
      (λ _. record { same = refl }))
    where
      page : ℕ
      page = named p g f k

no_caller : (caller : ℕ) → none ≡ some caller → ⊥
no_caller caller e = let z : ◌≡◌ {A = ℕ} 0 1 = cc in omega arith

-- Under a growth record: refused, or the call under its growth state.
module _ (p : Parameters) (r : GrowthRecord) (f : File) (caller : ℕ) (observer : caller ≡ 0 → ⊥) (s : Star) (other : s.payload.owner ≡ caller → ⊥) where
  under-kept : (lengths : Bool) (pool : Pool) (a : After)
      → Kept p r.state f caller observer s other a → Kept p r.state f caller observer s other (unless_open p r lengths f pool a)
  under-kept lengths pool a h =
      past p r.state f caller observer s other pool (unless (valid_steps p r) 1) _
      (λ _.
      either p r.state f caller observer s other r.growing _ _
      (λ _. past p r.state f caller observer s other pool (unlent p r.state lengths) _ (λ _. record { same = refl }))
      (λ _. h))

-- A report, for its owner.
pub report-untouched : ReportUntouched
unfolding report_filed removal_filed position_filed enter_under change_under remove_under
report-untouched p r f pool x observer s other =
    (split (is_removal x) _ _
    (λ _.
    split (eqb (remove_under p r f pool x.owner x.number).answer.refusal 7) _ _
    (λ _. record { same = refl })
    (λ _. under-kept p r f x.owner observer s other _ pool _ (remove-kept p r.state f x.owner observer s other pool x.number)))
    (λ _.
    split (eqb (change_under p r f pool x.owner x.number (reported_position x)).answer.refusal 7) _ _
    (λ _. under-kept p r f x.owner observer s other _ pool _ (enter-kept p r.state f x.owner observer s other pool x.number (reported_position x)))
    (λ _. under-kept p r f x.owner observer s other _ pool _ (change_kept p r.state f x.owner observer s other pool x.number (reported_position x))))
    ).same
  where
    split : (t : Bool) (a b : After)
        → (t ≡ true → Kept p r.state f x.owner observer s other a) → (t ≡ false → Kept p r.state f x.owner observer s other b)
        → Kept p r.state f x.owner observer s other (cond t a b)
    split = either p r.state f x.owner observer s other

-- The reports of a filing.
Strange : Star → List Report → Type 0
Strange s xs = (x : Report) → Memᴰ x xs → (x.owner ≡ 0 → ⊥) × (s.payload.owner ≡ x.owner → ⊥)

filed-untouched : (p : Parameters) (r : GrowthRecord) (pool : Pool) (s : Star) (xs : List Report) (f : File) → Strange s xs → copies s (filed_from p r f pool xs).file ≡ copies s f
unfolding filed_from Strange
filed-untouched p r pool s [] f h = refl
filed-untouched p r pool s (x ∷ xs) f h = go (eqb after.answer.refusal 0) (filed-untouched p r pool s xs after.file (λ y m. h y (Memᴰ.tail m)))
  where
    after : After
    after = report_filed p r f pool x

    one : copies s after.file ≡ copies s f
    one = report-untouched p r f pool x (h x (Memᴰ.head refl)).0 s (h x (Memᴰ.head refl)).1

    go : (b : Bool) → copies s (filed_from p r after.file pool xs).file ≡ copies s after.file
        → copies s (cond b (one_more_lem (filed_from p r after.file pool xs)) (record { filed = 0; answer = after.answer; file = after.file; rest = x ∷ xs })).file ≡ copies s f
    go true ih = ih ∙ one
    go false ih = one

pub filing-untouched : FilingUntouched
unfolding filing_of filed_unless left_by Strange
filing-untouched p r f pool t bits s h = go (tray_refusal p r (file_fits_lem p f && (pool_fits_lem p pool && tray_fits_lem t bits))) r.growing
  where
    go : (n : ℕ) (b : Bool)
        → copies s (filed_unless n f pool t bits (cond b (not_filed_lem f (cleared pool) t bits 16) (left_by p.multiplier (filed_from p r f (cleared pool) (waiting t)) (cleared pool)))).file
        ≡ copies s f
    go (suc n) b = refl
    go zero true = refl
    go zero false = filed-untouched p r (cleared pool) s (waiting t) f h

pub others-untouched : OthersUntouched
unfolding step caller_of enter_under cascade_under change_under remove_under
others-untouched p r f second lent pool (look_up_lem k) caller e observer s other = absurd (no_caller caller e)
others-untouched p r f second lent pool (enter c k q) caller e observer s other =
    let by : c ≡ caller = cc in
    rw by (under-kept p r f caller observer s other _ pool _ (enter-kept p r.state f caller observer s other pool k q)).same
others-untouched p r f second lent pool (cascade c k q) caller e observer s other =
    let by : c ≡ caller = cc in
    rw by (under-kept p r f caller observer s other _ pool _ (cascade-kept p r.state f caller observer s other pool k q)).same
others-untouched p r f second lent pool (change c k q) caller e observer s other =
    let by : c ≡ caller = cc in
    rw by (under-kept p r f caller observer s other _ unpooled _ (change_kept p r.state f caller observer s other unpooled k q)).same
others-untouched p r f second lent pool (remove c k) caller e observer s other =
    let by : c ≡ caller = cc in
    rw by (under-kept p r f caller observer s other _ pool _ (remove-kept p r.state f caller observer s other pool k)).same
others-untouched p r f second lent pool grow caller e observer s other = absurd (no_caller caller e)
others-untouched p r f second lent pool shrink caller e observer s other = absurd (no_caller caller e)
others-untouched p r f second lent pool due caller e observer s other = absurd (no_caller caller e)
others-untouched p r f second lent pool check caller e observer s other = absurd (no_caller caller e)
others-untouched p r f second lent pool open_growth_lem caller e observer s other = absurd (no_caller caller e)
others-untouched p r f second lent pool step_growth_lem caller e observer s other = absurd (no_caller caller e)
