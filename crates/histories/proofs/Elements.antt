-- Every element of a history conforms.
use mathlib.Core.Path.{◌≡◌, refl, sym, ap, ◌∙◌}
use mathlib.Core.Bool.{Bool, true, false, cond, ◌&&◌, true≢false}
use mathlib.Core.List.Memᴰ
use mathlib.Core.List.{List, [], ◌∷◌, Memᴰ}
use mathlib.Core.Logic.{◌⊎◌, inl, ⊎_elim}
use Prim.Native.Nat.{ℕ}
use native.Mathlib.Omega.{arith}
use lib.Dec.{eqb}
use borrow.Author.Tests.{eqb-true}
use Rattle.hashing.specs.declared.Parameters.{Parameters}
use Rattle.hashing.specs.declared.Growth.{Growth}
use Rattle.placement.specs.Rule.{Star}
use Rattle.placement.specs.File.{File}
use Rattle.reach.specs.Reach.{all_stars}
use Rattle.calls.specs.declared.answers.Answer.{Answer}
use Rattle.calls.specs.declared.records.GrowthRecord.{GrowthRecord}
use Rattle.calls.specs.Answers.{Pool, After, spotted, accepted, refused, cleared}
use Rattle.calls.specs.Calls.{pool_fits_lem, unchanged}
use Rattle.calls.specs.Records.{valid_steps, record_after, AfterStep}
use Rattle.calls.specs.Mend.{mend_under}
use Rattle.calls.specs.Carry.{carry_of}
use Rattle.fits_table.specs.Header.{table_in}
use Rattle.fits_table.specs.declared.cards.Table.{Table}
use Rattle.exchange.specs.Tables.{read_under}
use Rattle.exchange.proofs.Exchanged.{was_read}
use Rattle.reports.specs.declared.Report.{Report}
use Rattle.reports.specs.Reports.{Tray, tray_fits_lem}
use Rattle.reports.specs.Filing.{not_filed_lem, left_by, filing_of}
use Rattle.histories.specs.Model.{Model, Request, look_up_lem, Made, made, stars_entered, fed_all, calls_made, fed_by}
use Rattle.histories.specs.Call.{plain, mend, lost, carried_into, carried_from, read_from, written_to, file_reports_lem, combined_look_up, add_report, is_accepted, on_file, step, effect, feeding, given_state, table_stars, tells_of_file}
use Rattle.histories.specs.Loss.{Loss, Underway, no_call, an_entry, a_change, a_removal, loss_fits, whole_call, mended_after, same_file, made_of, counted_call}
use Rattle.histories.specs.Filing.{begins, filing_made}
use Rattle.histories.proofs.Matching.{Matches, ElementConforms}
use Rattle.histories.proofs.Histories.{Conforming}
use Rattle.histories.proofs.Under.{request_conforms}
use Rattle.histories.proofs.GoesOn.{mend_stays, survives}
use Rattle.histories.proofs.Cleaned.{Modelled}
use Rattle.histories.proofs.Tables.{read-begins, read-undamaged, write_undamaged}
use Rattle.histories.proofs.Filing.{sought-undamaged, added-undamaged, filing-unlent, filing-open, filing-begun, filed, told}
use Rattle.histories.proofs.Carrying.{past, own-order, carried_on, carried-closed, carried-undamaged}

same-request : (q : Request) (k : ℕ) → plain q ≡ plain (look_up_lem k) → q ≡ look_up_lem k
same-request q k e = cc

-- stars entered, none of them refused
stars-undamaged : (w : List Star) (c : Made) → Memᴰ c (stars_entered w) → c.refusal ≡ 5 → ⊥
unfolding stars_entered
stars-undamaged [] c n e = absurd (Memᴰ.not-nil n)
stars-undamaged (t ∷ w) c n e = ⊎_elim (λ (d : c ≡ made _ 0). omega (arith, told d e)) (λ d. stars-undamaged w c d e) (Memᴰ.cases_cons n)

module _ (p : Parameters) (m : Model) (r : GrowthRecord) (f second : File) (x : Matches p m r f second) (set : File) (pool : Pool) where
  -- a call that leaves record and file leaves what the model is
  stays : (a : After) → a.growth ≡ r.state → a.file ≡ f → Matches p m (record_after r a) a.file second
  unfolding valid_steps
  stays a e d = record { growth = e ∙ x.growth; file = d ∙ x.file; fitting = x.fitting; steps = x.steps; unfinished = x.unfinished }

  plain-conforms : (q : Request) → ElementConforms p m r f pool (plain q) (step p r f second set pool q)
  unfolding feeding fed_by fed_all calls_made is_accepted
  plain-conforms q =
      let t = request_conforms p m r f second x set pool q in
      record {
        matches = t.matches;
        undamaged = λ _. t.undamaged;
        each = λ c n e. t.undamaged (told (Memᴰ.eq_of_singleton n) e);
        found = λ k e. t.found k (same-request q k e);
      }

  modelled : Modelled p r.state f
  modelled = record { model = m; fitting = x.fitting; growth = sym x.growth; file = sym x.file }

  -- Mending by itself, and power lost: document 02 (xii).
  not-look-up : (k : ℕ) → mend ≡ plain (look_up_lem k) → ⊥
  not-look-up k e = let z : ◌≡◌ {A = ℕ} 0 1 = cc in omega arith

  mend-conforms : ElementConforms p m r f pool mend (on_file p r second (mend_under p r f pool))
  unfolding feeding fed_by fed_all calls_made
  mend-conforms =
      let t = mend_stays p m r f second x pool in
      record {
        matches = stays (mend_under p r f pool) t.growth t.file;
        undamaged = λ _. t.undamaged;
        each = λ c n e. absurd (Memᴰ.not-nil n);
        found = λ k e. absurd (not-look-up k e);
      }

  no-look-up : (l : Loss) (k : ℕ) → lost l ≡ plain (look_up_lem k) → ⊥
  no-look-up l k e = let z : ◌≡◌ {A = ℕ} 0 1 = cc in omega arith

  not-damaged : (u : Underway) (n : ℕ) → (n ≡ 5 → ⊥) → (b : Bool) (c : Made) → Memᴰ c (cond b (made_of u n) []) → c.refusal ≡ 5 → ⊥
  unfolding made_of
  not-damaged u n h false c z e = absurd (Memᴰ.not-nil z)
  not-damaged no_call n h true c z e = absurd (Memᴰ.not-nil z)
  not-damaged (an_entry caller k q) n h true c z e = h (told (Memᴰ.eq_of_singleton z) e)
  not-damaged (a_change caller k q) n h true c z e = h (told (Memᴰ.eq_of_singleton z) e)
  not-damaged (a_removal caller k) n h true c z e = h (told (Memᴰ.eq_of_singleton z) e)

  -- what follows a loss is at rest
  lost-conforms : (l : Loss) → ElementConforms p m r f pool (lost l) (effect p r f second set pool (lost l))
  unfolding effect feeding fed_by fed_all calls_made counted_call valid_steps spotted
  lost-conforms l = go (loss_fits p l) refl
    where
      mended : After
      mended = mended_after p r f pool l

      whole : After
      whole = whole_call p r f pool l.underway

      ended : mended.answer ≡ accepted 0 → mended.answer.refusal ≡ 5 → ⊥
      ended e z = let d : ◌≡◌ {A = ℕ} 0 5 = sym (ap (λ (a : Answer). a.refusal) e) ∙ z in omega arith

      go : (b : Bool) → loss_fits p l ≡ b → ElementConforms p m r f pool (lost l) (effect p r f second set pool (lost l))
      go true e =
          let t = survives p m r f second x pool l e in
          rw e
          (record {
            matches =
                rw e
                (record {
                  growth = t.mends.growth;
                  file = t.mends.file;
                  fitting = t.mends.fitting;
                  steps = refl;
                  unfinished = λ z. absurd (true≢false (sym z));
                });
            undamaged = λ _ z. ended t.answer z;
            each = rw e (not-damaged l.underway whole.answer.refusal t.undamaged (same_file p mended.file whole.file));
            found = λ k z. absurd (no-look-up l k z);
          })
      go false e =
          rw e
          (record {
            matches = rw e (stays (unchanged r.state f pool (refused 2 0)) refl refl);
            undamaged = λ _ z. omega arith;
            each = rw e (λ c n z. absurd (Memᴰ.not-nil n));
            found = λ k z. absurd (no-look-up l k z);
          })

  -- Carrying into the file, and out of it: document 02 (viii).
  module _ (old : Parameters) (s : GrowthRecord) (source : File) (q : Parameters) (g : Growth) where
    abbrev carried : AfterStep
    carried = carry_of old s source q (given_state r g) set pool

    not_carried : (k : ℕ) → carried_into old s source q g ≡ plain (look_up_lem k) → ⊥
    not_carried k e = let z : ◌≡◌ {A = ℕ} 0 1 = cc in omega arith

    carried-conforms : ElementConforms p m r f pool (carried_into old s source q g) (effect p r f second set pool (carried_into old s source q g))
    unfolding effect feeding fed_by fed_all calls_made is_accepted tells_of_file
    carried-conforms = go (eqb carried.answer.refusal 0) refl
      where
        go : (b : Bool) → eqb carried.answer.refusal 0 ≡ b → ElementConforms p m r f pool (carried_into old s source q g) (effect p r f second set pool (carried_into old s source q g))
        go true e =
            let z : carried.answer.refusal ≡ 0 = eqb-true carried.answer.refusal 0 e in
            let h = past old s source q (given_state r g) set pool (inl z) in
            let t = carried_on old s source q (given_state r g) set pool z (all_stars old source) (own-order old s source q (given_state r g) set pool h) in
            let c = carried-closed old s source q (given_state r g) set pool z in
            rw e
            (record {
              matches =
                  rw e
                  (record {
                    growth = ap (λ (x : GrowthRecord). x.state) t.record_kept ∙ t.growth;
                    file = t.file;
                    fitting = t.fits;
                    steps = ap (valid_steps q) t.record_kept ∙ c.1;
                    unfinished = λ d. absurd (true≢false (sym d ∙ ap (λ (x : GrowthRecord). x.growing) t.record_kept ∙ c.0));
                  });
              undamaged = λ d. absurd (true≢false (sym d));
              each = rw e (stars-undamaged (all_stars old source));
              found = λ k d. absurd (not_carried k d);
            })
        go false e =
            rw e
            (record {
              matches = rw e x;
              undamaged = λ d. absurd (true≢false (sym d));
              each = rw e (λ c n z. absurd (Memᴰ.not-nil n));
              found = λ k d. absurd (not_carried k d);
            })

  module _ (q : Parameters) (s : GrowthRecord) where
    not-read : (k : ℕ) → carried_from q s ≡ plain (look_up_lem k) → ⊥
    not-read k e = let z : ◌≡◌ {A = ℕ} 0 1 = cc in omega arith

    read-conforms : ElementConforms p m r f pool (carried_from q s) (effect p r f second set pool (carried_from q s))
    unfolding effect feeding fed_by fed_all calls_made
    read-conforms =
        record {
          matches = x;
          undamaged = λ _. carried-undamaged p r f modelled q s set pool;
          each = λ c n e. absurd (Memᴰ.not-nil n);
          found = λ k d. absurd (not-read k d);
        }

  -- Reading a table, and writing one: document 02 (vi).
  module _ (given : List ℕ) (q : Parameters) (g : Growth) where
    abbrev was : After
    was = read_under q (given_state r g) set pool given

    not_table : (k : ℕ) → read_from given q g ≡ plain (look_up_lem k) → ⊥
    not_table k e = let z : ◌≡◌ {A = ℕ} 0 1 = cc in omega arith

    rows-undamaged : (t : Table) (c : Made) → Memᴰ c (stars_entered (table_stars given t)) → c.refusal ≡ 5 → ⊥
    rows-undamaged t = stars-undamaged (table_stars given t)

    table-conforms : ElementConforms p m r f pool (read_from given q g) (effect p r f second set pool (read_from given q g))
    unfolding effect feeding fed_by fed_all calls_made is_accepted table_stars valid_steps
    table-conforms = go (eqb was.answer.refusal 0) refl
      where
        go : (b : Bool) → eqb was.answer.refusal 0 ≡ b → ElementConforms p m r f pool (read_from given q g) (effect p r f second set pool (read_from given q g))
        go true e =
            let found = was_read q (given_state r g) set pool given (eqb-true was.answer.refusal 0 e) in
            let t = read-begins q (given_state r g) set pool given found.0 found.1 in
            let d = found.1.is in
            rw e
            (record {
              matches =
                  rw (e, found.1.header)
                  (record {
                    growth = ap (λ (a : After). a.growth) d ∙ sym t.growth;
                    file = ap (λ (a : After). a.file) d ∙ t.file;
                    fitting = t.fits;
                    steps = found.1.recorded.0;
                    unfinished = λ z. absurd (true≢false (sym z ∙ found.1.recorded.1));
                  });
              undamaged = λ _. read-undamaged q (given_state r g) set pool given;
              each = rw e (rows-undamaged (table_in given));
              found = λ k z. absurd (not_table k z);
            })
        go false e =
            rw e
            (record {
              matches = rw e x;
              undamaged = λ _. read-undamaged q (given_state r g) set pool given;
              each = rw e (λ c n z. absurd (Memᴰ.not-nil n));
              found = λ k z. absurd (not_table k z);
            })

  not-output : (out : List ℕ) (k : ℕ) → written_to out ≡ plain (look_up_lem k) → ⊥
  not-output out k e = let z : ◌≡◌ {A = ℕ} 0 1 = cc in omega arith

  written-conforms : (out : List ℕ) → ElementConforms p m r f pool (written_to out) (effect p r f second set pool (written_to out))
  unfolding effect feeding fed_by fed_all calls_made
  written-conforms out =
      record {
        matches = x;
        undamaged = λ _. write_undamaged p r f modelled out;
        each = λ c n e. absurd (Memᴰ.not-nil n);
        found = λ k z. absurd (not-output out k z);
      }

  -- Filing the reports of a tray, the combined look-up, and adding a report: document 02 (xi).
  module _ (t : Tray) (filter : List ℕ) where
    not-filing : (k : ℕ) → file_reports_lem t filter ≡ plain (look_up_lem k) → ⊥
    not-filing k e = let z : ◌≡◌ {A = ℕ} 0 1 = cc in omega arith

    -- a filing that is refused before any report is tried
    refuses : (l : Pool) (n : ℕ) → (n ≡ 5 → ⊥) → filing_of p r f pool t filter ≡ not_filed_lem f l t filter n → begins p r f pool t filter ≡ false
        → ElementConforms p m r f pool (file_reports_lem t filter) (effect p r f second set pool (file_reports_lem t filter))
    unfolding effect feeding fed_by fed_all calls_made filing_made spotted
    refuses l n h e d =
        rw e
        (record {
          matches = rw d x;
          undamaged = λ _. h;
          each = rw d (λ c n z. absurd (Memᴰ.not-nil n));
          found = λ k z. absurd (not-filing k z);
        })

    filing-conforms : ElementConforms p m r f pool (file_reports_lem t filter) (effect p r f second set pool (file_reports_lem t filter))
    unfolding effect feeding fed_by calls_made filing_made left_by
    filing-conforms = go (pool_fits_lem p pool && tray_fits_lem t filter) refl r.growing refl
      where
        go : (b : Bool) → pool_fits_lem p pool && tray_fits_lem t filter ≡ b → (y : Bool) → r.growing ≡ y
            → ElementConforms p m r f pool (file_reports_lem t filter) (effect p r f second set pool (file_reports_lem t filter))
        go false b y g =
            let e = filing-unlent p m r f second x pool t filter b in
            refuses pool 2 (λ z. omega arith) e.0 e.1
        go true b true g =
            let e = filing-open p m r f second x pool t filter b g in
            refuses (cleared pool) 16 (λ z. omega arith) e.0 e.1
        go true b false g =
            let e = filing-begun p m r f second x pool t filter b g in
            let all = filed p m r f second x pool t filter g in
            rw e.0
            (record {
              matches =
                  rw e.1
                  (record {
                    growth = x.growth ∙ sym all.growth;
                    file = all.file;
                    fitting = all.fitting;
                    steps = x.steps;
                    unfinished = λ z. absurd (true≢false (sym z ∙ g));
                  });
              undamaged = λ _. all.undamaged;
              each = rw e.1 all.each;
              found = λ k z. absurd (not-filing k z);
            })

    not-combined : (j k : ℕ) → combined_look_up t filter j ≡ plain (look_up_lem k) → ⊥
    not-combined j k e = let z : ◌≡◌ {A = ℕ} 0 1 = cc in omega arith

    combined-conforms : (k : ℕ) → ElementConforms p m r f pool (combined_look_up t filter k) (effect p r f second set pool (combined_look_up t filter k))
    unfolding effect feeding fed_by fed_all calls_made
    combined-conforms k =
        record {
          matches = x;
          undamaged = λ _. sought-undamaged p m r f second x t filter k;
          each = λ c n e. absurd (Memᴰ.not-nil n);
          found = λ j z. absurd (not-combined k j z);
        }

    not-adding : (y : Report) (k : ℕ) → add_report t filter y ≡ plain (look_up_lem k) → ⊥
    not-adding y k e = let z : ◌≡◌ {A = ℕ} 0 1 = cc in omega arith

    adding-conforms : (y : Report) → ElementConforms p m r f pool (add_report t filter y) (effect p r f second set pool (add_report t filter y))
    unfolding effect feeding fed_by fed_all calls_made
    adding-conforms y =
        record {
          matches = x;
          undamaged = λ _. added-undamaged p m r f second x t filter y;
          each = λ c n e. absurd (Memᴰ.not-nil n);
          found = λ k z. absurd (not-adding y k z);
        }

-- one law for every element
pub conforming : Conforming
unfolding effect
conforming p m r f second x set pool (plain q) = plain-conforms p m r f second x set pool q
conforming p m r f second x set pool mend = mend-conforms p m r f second x set pool
conforming p m r f second x set pool (lost l) = lost-conforms p m r f second x set pool l
conforming p m r f second x set pool (carried_into old s source q g) = carried-conforms p m r f second x set pool old s source q g
conforming p m r f second x set pool (carried_from q s) = read-conforms p m r f second x set pool q s
conforming p m r f second x set pool (read_from given q g) = table-conforms p m r f second x set pool given q g
conforming p m r f second x set pool (written_to out) = written-conforms p m r f second x set pool out
conforming p m r f second x set pool (file_reports_lem t filter) = filing-conforms p m r f second x set pool t filter
conforming p m r f second x set pool (combined_look_up t filter k) = combined-conforms p m r f second x set pool t filter k
conforming p m r f second x set pool (add_report t filter y) = adding-conforms p m r f second x set pool t filter y
