-- What filing leaves, from what the code below the guard says of the reports that it took in.
use mathlib.Core.Path.{◌≡◌, refl, sym, ap, ◌∙◌}
use mathlib.Core.Bool.{Bool, true, false, ◌&&◌}
use mathlib.Core.List.{List, ◌++◌}
use Prim.Native.Nat.{ℕ, zero, suc, ◌+◌, ◌-◌, ◌≤◌}
use native.Mathlib.Omega.{arith}
use lib.ListN.{length, take, drop, replicate}
use lib.Seq.{length-take-le}
use borrow.Author.Tests.{eqb-true, le-leb}
use Rattle.generator.specs.Generator.{valid_multiplier}
use Rattle.hashing.specs.declared.Parameters.{Parameters}
use Rattle.hashing.specs.Limits.{valid_parameters, valid_growth}
use Rattle.buffers.proofs.Tests.{and-true}
use Rattle.placement.specs.File.{File}
use Rattle.placement.specs.Ready.{Pooled}
use Rattle.calls.specs.declared.records.GrowthRecord.{GrowthRecord}
use Rattle.calls.specs.declared.answers.Placed.{Placed}
use Rattle.calls.specs.declared.answers.Placed.TheVariants.{Refused}
use Rattle.calls.specs.declared.answers.Refusal.{Refusal}
use Rattle.calls.specs.declared.answers.Refusal.TheVariants.{OutOfTurn}
use Rattle.calls.specs.Answers.{Pool, placed, pooled, cleared, zeros, refusal_number, refused_by}
use Rattle.calls.specs.Calls.{unless, or_else, file_fits_lem, pool_fits_lem, unlent}
use Rattle.calls.specs.Shape.{Admitted}
use Rattle.calls.specs.Records.{valid_steps, closed_record}
use Rattle.calls.proofs.Numbers.{numbered}
use Rattle.calls.proofs.Refusals.{unlent-facts, well-lent, admitted-pool}
use Rattle.reports.specs.declared.Report.{Report}
use Rattle.reports.specs.Reports.{no_report, tray_fits_lem, waiting, closed_tray, filter_of}
use Rattle.reports.specs.TrayCalls.{tray_refusal}
use Rattle.reports.specs.Filing.{Filed, filed_from, filed_unless, not_filed_lem, left_by, AfterFiling, filing_of}
use Rattle.reports.proofs.Latest.{rest-is, filed-and_rest}
use Rattle.tray_list.specs.Closing.{closed_to}
use Rattle.tray_list.specs.Loading.{loaded}
use Rattle.tray_list.proofs.Closing.{closed_none}
use Rattle.tray_list.proofs.ClosedUp.{taken-loaded, closed-up}
use Rattle.tray.specs.Lent.{tray_of}
use Rattle.tray.specs.Refusals.{tray_lengths}
use Rattle.tray.specs.declared.filing.Filing.{Filing}
use Rattle.tray.specs.Filing.{FilesTray}
use Rattle.tray.specs.Shape.{limit_of, FiledBelow}
use Rattle.tray.proofs.Refused.{pageless, tray_refusal-most, tray_refusal-none, first-none, lengths-are}

unless-refused : (n : ℕ) (f : File) (pool : Pool) (reports : List Report) (count : ℕ) (filter : List ℕ) (after : AfterFiling) → 1 ≤ n
    → filed_unless n f pool (tray_of reports count) filter after ≡ not_filed_lem f pool (tray_of reports count) filter n
unfolding filed_unless
unless-refused zero f pool reports count filter after h = absurd (omega (arith, h))
unless-refused (suc n) f pool reports count filter after h = refl

-- refused with 1 or 2: all is as found
pub refused-files : (p : Parameters) (r : GrowthRecord) (f : File) (pool : Pool) (reports : List Report) (count : ℕ) (filter : List ℕ) (a : Refusal)
    → refusal_number a ≡ tray_refusal p r (file_fits_lem p f && (pool_fits_lem p pool && tray_fits_lem (tray_of reports count) filter))
    → FilesTray (filing_of p r f pool (tray_of reports count) filter) 0 (Refused a 0) count f pool (closed_to 0 0 0 reports) filter
unfolding filing_of placed
refused-files p r f pool reports count filter a e =
    let lengths : Bool = file_fits_lem p f && (pool_fits_lem p pool && tray_fits_lem (tray_of reports count) filter) in
    let is : filing_of p r f pool (tray_of reports count) filter ≡ not_filed_lem f pool (tray_of reports count) filter (refusal_number a) = rw (← e) (unless-refused (refusal_number a) f pool reports count filter _ (numbered a)) in
    rw is (record {
      fileds = refl;
      answers = pageless a (λ five. omega (arith, five, e, tray_refusal-most p r lengths));
      files = refl;
      pools = refl;
      trays = ap (λ (l : List Report). tray_of l count) (sym (closed_none 0 0 reports));
      filters = refl;
    })

-- refused with 16: the pool is cleared, all else is as found
pub open_files : (p : Parameters) (r : GrowthRecord) (f : File) (pool : Pool) (reports : List Report) (count : ℕ) (filter : List ℕ)
    → tray_refusal p r (file_fits_lem p f && (pool_fits_lem p pool && tray_fits_lem (tray_of reports count) filter)) ≡ 0 → r.growing ≡ true
    → FilesTray (filing_of p r f pool (tray_of reports count) filter) 0 (Refused OutOfTurn 0) count f (cleared pool) (closed_to 0 0 0 reports) filter
unfolding filing_of filed_unless placed refused_by
open_files p r f pool reports count filter none growing =
    rw (none, growing) (record {
      fileds = refl;
      answers = refl;
      files = refl;
      pools = refl;
      trays = ap (λ (l : List Report). tray_of l count) (sym (closed_none 0 0 reports));
      filters = refl;
    })

-- the reports in order, from the copy of the list
module _ (p : Parameters) (r : GrowthRecord) (f : File) (pool : Pool) (reports : List Report) (count : ℕ) (filter : List ℕ)
    (none : tray_refusal p r (file_fits_lem p f && (pool_fits_lem p pool && tray_fits_lem (tray_of reports count) filter)) ≡ 0) (rest : r.growing ≡ false) (size : length reports ≡ 256) (most : count ≤ 256) where
  abbrev done : Filed
  done = filed_from p r f (cleared pool) (take count reports)

  is-left : filing_of p r f pool (tray_of reports count) filter ≡ left_by p.multiplier done (cleared pool)
  unfolding filing_of filed_unless waiting
  is-left = rw (none, rest)

  length_taken : length (take count reports) ≡ count
  length_taken = length-take-le count reports (omega (arith, size, most))

  filed-most : done.filed ≤ count
  filed-most = omega (arith, filed-and_rest p r f (cleared pool) (take count reports), length_taken)

  stays : drop done.filed (take (done.filed + (count - done.filed)) reports) ≡ done.rest
  stays =
      let all : done.filed + (count - done.filed) ≡ count = omega (arith, filed-most) in
      ap (λ (n : ℕ). drop done.filed (take n reports)) all ∙ sym (rest-is p r f (cleared pool) (take count reports))

  length_rest : length done.rest ≡ count - done.filed
  length_rest = omega (arith, filed-and_rest p r f (cleared pool) (take count reports), length_taken)

  pub filed-files : (n : ℕ) (answer : Placed) (file : File) (filter' : List ℕ) (copy : List Report) → copy ≡ loaded (take count reports)
      → n ≡ done.filed → placed answer ≡ done.answer → file ≡ done.file → filter' ≡ filter_of p.multiplier (drop n (take count copy))
      → FilesTray (filing_of p r f pool (tray_of reports count) filter) n answer (count - n) file (cleared pool) (closed_to n (count - n) 256 reports) filter'
  unfolding left_by closed_tray
  filed-files n answer file filter' copy is-copy filed answers files filters =
      let fits : done.filed + (count - done.filed) ≤ 256 = omega (arith, filed-most, most) in
      let closes : closed_to done.filed (count - done.filed) 256 reports ≡ done.rest ++ replicate (256 - length done.rest) no_report = rw (closed-up done.filed (count - done.filed) reports size fits, stays, length_rest) in
      rw (is-left, filed) (record {
        fileds = refl;
        answers = answers;
        files = files;
        pools = refl;
        trays = λ i. record { reports = closes i; count = sym length_rest i };
        filters = filters ∙ rw (filed, is-copy, taken-loaded count reports (omega (arith, size, most)), rest-is p r f (cleared pool) (take count reports));
      })

-- no more reports are filed than were tried
pub filed-few : (p : Parameters) (r : GrowthRecord) (f : File) (pool : Pool) (copy : List Report) (count n : ℕ) → length copy ≡ 256 → count ≤ 256
    → n ≡ (filed_from p r f pool (take count copy)).filed → n ≤ count
filed-few p r f pool copy count n size most e =
    omega (arith, e, filed-and_rest p r f pool (take count copy), length-take-le count copy (omega (arith, size, most)))

-- The same by what the code measures: the list is known by its length and its copy

and_assoc : (a b c : Bool) → (a && b) && c ≡ a && (b && c)
and_assoc true b c = refl
and_assoc false b c = refl

module _ (p : Parameters) (r : GrowthRecord) (f : File) (pool : Pool) (places count : ℕ) (filter : List ℕ) where
  abbrev pub measured : Bool
  measured = (file_fits_lem p f && pool_fits_lem p pool) && tray_lengths places count (length filter)

  measured-is : (reports : List Report) → length reports ≡ places → measured ≡ file_fits_lem p f && (pool_fits_lem p pool && tray_fits_lem (tray_of reports count) filter)
  unfolding tray_fits_lem tray_lengths
  measured-is reports size = and_assoc (file_fits_lem p f) (pool_fits_lem p pool) (tray_lengths places count (length filter)) ∙ rw size

  pub refused-measured : (a : Refusal) → refusal_number a ≡ tray_refusal p r measured → (reports : List Report) → length reports ≡ places
      → FilesTray (filing_of p r f pool (tray_of reports count) filter) 0 (Refused a 0) count f pool (closed_to 0 0 0 reports) filter
  refused-measured a e reports size = refused-files p r f pool reports count filter a (e ∙ ap (tray_refusal p r) (measured-is reports size))

  -- past 1 and 2
  module _ (none : tray_refusal p r measured ≡ 0) where
    none_in : (reports : List Report) → length reports ≡ places → tray_refusal p r (file_fits_lem p f && (pool_fits_lem p pool && tray_fits_lem (tray_of reports count) filter)) ≡ 0
    none_in reports size = sym (ap (tray_refusal p r) (measured-is reports size)) ∙ none

    pub open_measured : r.growing ≡ true → (left : Pool) → left ≡ cleared pool → (reports : List Report) → length reports ≡ places
        → FilesTray (filing_of p r f pool (tray_of reports count) filter) 0 (Refused OutOfTurn 0) count f left (closed_to 0 0 0 reports) filter
    open_measured growing left zeros reports size = rw zeros (open_files p r f pool reports count filter (none_in reports size) growing)

    steps : valid_steps p r ≡ true
    unfolding tray_refusal
    steps = go (valid_steps p r) none
      where
        go : (t : Bool) → or_else (unless t 1) (unlent p r.state measured) ≡ 0 → t ≡ true
        go true e = refl
        go false e = absurd (omega arith)

    lent : (valid_parameters p && valid_growth p r.state ≡ true) × (measured ≡ true)
    unfolding tray_refusal
    lent = unlent-facts p r.state measured (first-none (unless (valid_steps p r) 1) (unlent p r.state measured) none).1

    fits : (file_fits_lem p f && pool_fits_lem p pool ≡ true) × (tray_lengths places count (length filter) ≡ true)
    fits = and-true (file_fits_lem p f && pool_fits_lem p pool) (tray_lengths places count (length filter)) lent.1

    sizes : (places ≡ 256) × ((length filter ≡ 32) × (count ≤ 256))
    sizes = lengths-are places count (length filter) fits.1

    pub filing-admitted : Admitted p r.state f × (Pooled p pool.numbers pool.words pool.owners × ((valid_multiplier p.multiplier ≡ true) × ((length filter ≡ 32) × (count ≤ 256))))
    filing-admitted =
        let ready = admitted-pool p r.state f pool (well-lent p r.state (file_fits_lem p f && pool_fits_lem p pool) lent.0 fits.0) in
        (ready.0, (ready.1, ((tray_refusal-none p r measured none).0, sizes.1)))

    -- a valid record without an open growth is closed
    closed_is : r.growing ≡ false → closed_record r.state ≡ r
    unfolding valid_steps
    closed_is rest =
        let no : r.steps ≡ 0 = eqb-true r.steps 0 (sym (rw rest) ∙ steps) in
        λ i. record { state = r.state; growing = sym rest i; steps = sym no i }

    limit_is : limit_of places count ≡ count
    unfolding limit_of
    limit_is = rw (sizes.0, le-leb count 256 sizes.1.1)

    pub filed-measured : r.growing ≡ false → (copy : List Report) (x : Filing) (file : File) (left : Pool) (filter' : List ℕ)
        → FiledBelow p.multiplier count copy (filed_from p (closed_record r.state) f (cleared pool) (take count copy)) (cleared pool) x file left filter'
        → ((x.filed + x.count ≤ places) × (places ≤ places)) × ((reports : List Report) → length reports ≡ places → copy ≡ loaded (take (limit_of places count) reports)
        → FilesTray (filing_of p r f pool (tray_of reports count) filter) x.filed x.answer x.count file left (closed_to x.filed x.count places reports) filter')
    filed-measured rest copy x file left filter' below = (
      (omega (arith, below.counts, below.most, sizes.0, sizes.1.1), omega arith),
      λ reports size copied.
          let size256 : length reports ≡ 256 = size ∙ sizes.0 in
          let is-copy : copy ≡ loaded (take count reports) = copied ∙ ap (λ (n : ℕ). loaded (take n reports)) limit_is in
          let taken : take count copy ≡ take count reports = ap (take count) is-copy ∙ taken-loaded count reports (omega (arith, size256, sizes.1.1)) in
          let same : filed_from p (closed_record r.state) f (cleared pool) (take count copy) ≡ filed_from p r f (cleared pool) (take count reports) =
          ap (λ (g : GrowthRecord). filed_from p g f (cleared pool) (take count copy)) (closed_is rest) ∙ ap (filed_from p r f (cleared pool)) taken in
          rw (below.counts, below.pools, sizes.0)
          (filed-files p r f pool reports count filter (none_in reports size) rest size256 sizes.1.1 x.filed x.answer file filter' copy is-copy (below.filed ∙ ap (λ (d : Filed). d.filed) same)
          (below.answers ∙ ap (λ (d : Filed). d.answer) same) (below.files ∙ ap (λ (d : Filed). d.file) same) below.filters),
    )
