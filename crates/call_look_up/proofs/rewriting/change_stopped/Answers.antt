use mathlib.Core.Path.{◌≡◌, refl, sym, ap, ◌∙◌}
use mathlib.Core.Bool.{Bool, true, not}
use Prim.Native.Nat.{ℕ, ◌*◌, ◌<◌}
use native.Mathlib.Omega.{arith}
use borrow.Author.Tests.{not-true, not-false, eq-eqb, ne_eqb}
use Rattle.hashing.proofs.Bounds.{limits, passed, failed}
use Rattle.pages.specs.Position.{valid_number, valid_position, packed}
use Rattle.placement.specs.File.{File}
use Rattle.placement.specs.Hash.{lent}
use lib.ListN.{set, length}
use Rattle.calls.specs.declared.answers.Refusal.TheVariants.{Damaged, NotHeld, NotOwner}
use Rattle.calls.specs.declared.answers.Placed.TheVariants.{On, Refused}
use Rattle.calls.specs.Answers.{After, Leaves, unpooled, placed, refused_by}
use Rattle.calls.specs.Shape.{admission_number}
use Rattle.calls.specs.Calls.{unlent, change_of, change_on, allowed, may_alter_lem, owner_for, named, file_fits_lem, file_lengths}
use Rattle.calls.proofs.Refusals.{turned-away-first, refusal_is, none_is, admitted, items-most, leaves}
use Rattle.call_guard.proofs.Admitting.{prepared, tabled, altered}
use Rattle.calls.specs.Stores.{change_stopped_of}
use Rattle.outcome_answer.proofs.Stopped.{unmoved-leaves}
use Rattle.call_look_up.proofs.Rewritten.{rewritten-leaves}
use borrow.Author.Rules.{rules}
use Rattle.std.specs.Prelude.{Result, Ok, Err}
use Rattle.calls.specs.declared.answers.Refusal.{Refusal}
use Rattle.hashing.specs.declared.Parameters.{Parameters}
use Rattle.hashing.specs.declared.Growth.{Growth}
use Rattle.pages.specs.declared.position.Position.{Position}
use Rattle.named_page.specs.declared.finding.Named.{Named}
use Rattle.named_page.specs.Named.{NamedAs}
use Rattle.call_look_up.proofs.rewriting.change_stopped.Goals as goal

-- what is known past the guard
none : (p : Parameters) (g : Growth) (f : File) {fits : Bool} {a : Result (Unit {0}) Refusal} → admission_number a ≡ unlent p g fits
    → fits ≡ file_lengths p (length f.separators) (length f.numbers) (length f.words) (length f.owners) → a ≡ Ok tt → unlent p g (file_fits_lem p f) ≡ 0
unfolding file_fits_lem
none p g f e l t = none_is _ _ e l t

-- the star may be changed
module _ (p : Parameters) (g : Growth) (f : File) (caller k : ℕ) (position : Position) (r : Named) (passed-guard : unlent p g (file_fits_lem p f) ≡ 0)
    (numbered : valid_number k ≡ true) (positioned : valid_position position ≡ true) (found : NamedAs p g f k r) (read : r.readable ≡ true) (there : r.held ≡ true)
    (may : may_alter_lem caller (owner_for p f (named p g f k) k) ≡ true) where
  changed : Leaves (change_of p g f unpooled caller k position) (placed (On r.page r.place)) (lent f.separators f.numbers (set f.words r.item (packed position)) f.owners) unpooled
  unfolding change_of change_on allowed placed
  changed =
      leaves _ _ g _ _
      (rw (passed-guard, numbered, positioned, sym found.readable_is ∙ read, sym (found.held_is read) ∙ there, may, ← found.place_is_lem read, found.page_is, found.item_is there))

pub returns-in-Err : goal.returns-in-Err
unfolding change_stopped_of change_of placed file_fits_lem
returns-in-Err c =
    let f = lent c.args.separators.now c.args.numbers.now c.args.words.now c.args.owners.now in
    let call = change_of c.args.parameters c.args.growth f unpooled c.args.caller c.args.number c.args.position in
    unmoved-leaves true c.args.parameters c.args.stores {after = call}
    (leaves _ _ _ _ _ (turned-away-first _ _ _ _ _ _ _ _ (refusal_is _ _ c.guard.ensures c.file_fits-fits.ensures c.in-Err.is)))

pub returns-then-not-number_valid : goal.returns-then-not-number_valid
unfolding change_stopped_of change_of placed refused_by
returns-then-not-number_valid c =
    let f = lent c.args.separators.now c.args.numbers.now c.args.words.now c.args.owners.now in
    let passed-guard = none c.args.parameters c.args.growth f c.guard.ensures c.file_fits-fits.ensures c.in_default.is in
    let call = change_of c.args.parameters c.args.growth f unpooled c.args.caller c.args.number c.args.position in
    unmoved-leaves true c.args.parameters c.args.stores {after = call}
    (leaves _ _ c.args.growth _ _ (rw (passed-guard, failed _ _ c.number_valid.ensures (ap not c.if-not-number_valid.true))))

pub returns-then-not-position_valid : goal.returns-then-not-position_valid
unfolding change_stopped_of change_of placed refused_by
returns-then-not-position_valid c =
    let f = lent c.args.separators.now c.args.numbers.now c.args.words.now c.args.owners.now in
    let passed-guard = none c.args.parameters c.args.growth f c.guard.ensures c.file_fits-fits.ensures c.in_default.is in
    let call = change_of c.args.parameters c.args.growth f unpooled c.args.caller c.args.number c.args.position in
    let numbered = passed _ _ c.number_valid.ensures (ap not c.if-not-number_valid.false) in
    unmoved-leaves true c.args.parameters c.args.stores {after = call}
    (leaves _ _ c.args.growth _ _ (rw (passed-guard, numbered, failed _ _ c.position_valid.ensures (ap not c.if-not-position_valid.true))))

pub first_multipliers-table-requires : goal.first_multipliers-table-requires
first_multipliers-table-requires c =
    let passed-guard = none c.args.parameters c.args.growth (lent c.args.separators.now c.args.numbers.now c.args.words.now c.args.owners.now) c.guard.ensures c.file_fits-fits.ensures c.in_default.is in
    tabled (admitted _ _ _ passed-guard)

pub home-home-requires : goal.home-home-requires
home-home-requires c =
    let passed-guard = none c.args.parameters c.args.growth (lent c.args.separators.now c.args.numbers.now c.args.words.now c.args.owners.now) c.guard.ensures c.file_fits-fits.ensures c.in_default.is in
    let well = admitted _ _ _ passed-guard in
    record {
      table_value = c.first_multipliers-table.ensures;
      parameters_value = well.homing.valid;
      growth_value = well.homing.growth;
    }

pub find-named-requires : goal.find-named-requires
find-named-requires c =
    let passed-guard = none c.args.parameters c.args.growth (lent c.args.separators.now c.args.numbers.now c.args.words.now c.args.owners.now) c.guard.ensures c.file_fits-fits.ensures c.in_default.is in
    let well = admitted _ _ _ passed-guard in
    let numbered = passed _ _ c.number_valid.ensures (ap not c.if-not-number_valid.false) in
    record {
      ready = prepared c.first_multipliers-table.ensures well;
      number_value = numbered;
      home_value = c.home-home.ensures;
      homes_len = refl;
    }

pub overflow_cast-page : goal.overflow_cast-page
overflow_cast-page c =
    let passed-guard = none c.args.parameters c.args.growth (lent c.args.separators.now c.args.numbers.now c.args.words.now c.args.owners.now) c.guard.ensures c.file_fits-fits.ensures c.in_default.is in
    let well = admitted _ _ _ passed-guard in
    omega (arith, c.find-named.ensures.named_as.page_most, (limits _ well.homing.valid).pages_most)

pub returns-then-not-named : goal.returns-then-not-named
unfolding change_stopped_of change_of placed refused_by change_on
returns-then-not-named c =
    let f = lent c.args.separators.now c.args.numbers.now c.args.words.now c.args.owners.now in
    let passed-guard = none c.args.parameters c.args.growth f c.guard.ensures c.file_fits-fits.ensures c.in_default.is in
    let call = change_of c.args.parameters c.args.growth f unpooled c.args.caller c.args.number c.args.position in
    let numbered = passed _ _ c.number_valid.ensures (ap not c.if-not-number_valid.false) in
    let positioned = passed _ _ c.position_valid.ensures (ap not c.if-not-position_valid.false) in
    let found = c.find-named.ensures.named_as in
    unmoved-leaves true c.args.parameters c.args.stores {after = call} {answer = placed (Refused (Damaged c.find-named.result.page) 0)} {f = f} {pool = unpooled}
    (leaves _ _ c.args.growth _ _ (rw (passed-guard, numbered, positioned, sym found.readable_is ∙ not-true _ c.if-not-named.true, found.page_is)))

pub returns-then-not-named-2 : goal.returns-then-not-named-2
unfolding change_stopped_of change_of placed refused_by change_on
returns-then-not-named-2 c =
    let f = lent c.args.separators.now c.args.numbers.now c.args.words.now c.args.owners.now in
    let passed-guard = none c.args.parameters c.args.growth f c.guard.ensures c.file_fits-fits.ensures c.in_default.is in
    let call = change_of c.args.parameters c.args.growth f unpooled c.args.caller c.args.number c.args.position in
    let numbered = passed _ _ c.number_valid.ensures (ap not c.if-not-number_valid.false) in
    let positioned = passed _ _ c.position_valid.ensures (ap not c.if-not-position_valid.false) in
    let found = c.find-named.ensures.named_as in
    let read = not-false _ c.if-not-named.false in
    unmoved-leaves true c.args.parameters c.args.stores {after = call} {answer = placed (Refused NotHeld c.find-named.result.place)} {f = f} {pool = unpooled}
    (leaves _ _ c.args.growth _ _ (rw (passed-guard, numbered, positioned, sym found.readable_is ∙ read, sym (found.held_is read) ∙ not-true _ c.if-not-named-2.true, ← found.place_is_lem read)))

pub returns-then-not-may_alter : goal.returns-then-not-may_alter
unfolding change_stopped_of change_of placed refused_by change_on allowed
returns-then-not-may_alter c =
    let f = lent c.args.separators.now c.args.numbers.now c.args.words.now c.args.owners.now in
    let passed-guard = none c.args.parameters c.args.growth f c.guard.ensures c.file_fits-fits.ensures c.in_default.is in
    let call = change_of c.args.parameters c.args.growth f unpooled c.args.caller c.args.number c.args.position in
    let numbered = passed _ _ c.number_valid.ensures (ap not c.if-not-number_valid.false) in
    let positioned = passed _ _ c.position_valid.ensures (ap not c.if-not-position_valid.false) in
    let found = c.find-named.ensures.named_as in
    let read = not-false _ c.if-not-named.false in
    let there = not-false _ c.if-not-named-2.false in
    let may = altered _ _ _ _ _ (found.owner_is there) c.may_alter.ensures c.if-not-may_alter.true in
    unmoved-leaves true c.args.parameters c.args.stores {after = call} {answer = placed (Refused NotOwner c.find-named.result.place)} {f = f} {pool = unpooled}
    (leaves _ _ c.args.growth _ _ (rw (passed-guard, numbered, positioned, sym found.readable_is ∙ read, sym (found.held_is read) ∙ there, may, ← found.place_is_lem read)))

pub returns-then-stores-eq0 : goal.returns-then-stores-eq0
unfolding change_stopped_of
returns-then-stores-eq0 c =
    let f = lent c.args.separators.now c.args.numbers.now c.args.words.now c.args.owners.now in
    let passed-guard = none c.args.parameters c.args.growth f c.guard.ensures c.file_fits-fits.ensures c.in_default.is in
    let well = admitted _ _ _ passed-guard in
    let numbered = passed _ _ c.number_valid.ensures (ap not c.if-not-number_valid.false) in
    let positioned = passed _ _ c.position_valid.ensures (ap not c.if-not-position_valid.false) in
    let found = c.find-named.ensures.named_as in
    let read = not-false _ c.if-not-named.false in
    let there = not-false _ c.if-not-named-2.false in
    let whole : Leaves (change_of c.args.parameters c.args.growth f unpooled c.args.caller c.args.number c.args.position) (placed (On c.find-named.result.page c.find-named.result.place)) (lent f.separators f.numbers (set f.words c.find-named.result.item (packed c.args.position)) f.owners) unpooled =
    changed c.args.parameters c.args.growth f c.args.caller c.args.number c.args.position _ passed-guard numbered positioned found read there
    (altered _ _ _ _ _ (found.owner_is there) c.may_alter.ensures c.if-not-may_alter.false) in
    rewritten-leaves c.args.parameters f well.sized (limits _ well.homing.valid).places_least c.find-named.result.item (packed c.args.position) c.args.stores _ _ unpooled _ whole
    (rw (eq-eqb _ 0 c.if-stores-eq0.true))

pub pack-requires : goal.pack-requires
pack-requires c = passed _ _ c.position_valid.ensures (ap not c.if-not-position_valid.false)

pub offset_bounds-words-item : goal.offset_bounds-words-item
offset_bounds-words-item c =
    let f = lent c.args.separators.now c.args.numbers.now c.args.words.now c.args.owners.now in
    let passed-guard = none c.args.parameters c.args.growth f c.guard.ensures c.file_fits-fits.ensures c.in_default.is in
    let well = admitted _ _ _ passed-guard in
    omega (arith, c.find-named.ensures.named_as.item_below (not-false _ c.if-not-named-2.false), items-most _ well.homing.valid)

pub bounds-words-item : goal.bounds-words-item
bounds-words-item c =
    let f = lent c.args.separators.now c.args.numbers.now c.args.words.now c.args.owners.now in
    let passed-guard = none c.args.parameters c.args.growth f c.guard.ensures c.file_fits-fits.ensures c.in_default.is in
    let well = admitted _ _ _ passed-guard in
    omega (arith, c.find-named.ensures.named_as.item_below (not-false _ c.if-not-named-2.false), well.sized.of_words_lem)

pub returns : goal.returns
unfolding change_stopped_of
returns c =
    let f = lent c.args.separators.now c.args.numbers.now c.args.words.now c.args.owners.now in
    let passed-guard = none c.args.parameters c.args.growth f c.guard.ensures c.file_fits-fits.ensures c.in_default.is in
    let well = admitted _ _ _ passed-guard in
    let numbered = passed _ _ c.number_valid.ensures (ap not c.if-not-number_valid.false) in
    let positioned = passed _ _ c.position_valid.ensures (ap not c.if-not-position_valid.false) in
    let found = c.find-named.ensures.named_as in
    let read = not-false _ c.if-not-named.false in
    let there = not-false _ c.if-not-named-2.false in
    let whole : Leaves (change_of c.args.parameters c.args.growth f unpooled c.args.caller c.args.number c.args.position) (placed (On c.find-named.result.page c.find-named.result.place)) (lent f.separators f.numbers (set f.words c.find-named.result.item (packed c.args.position)) f.owners) unpooled =
    changed c.args.parameters c.args.growth f c.args.caller c.args.number c.args.position _ passed-guard numbered positioned found read there
    (altered _ _ _ _ _ (found.owner_is there) c.may_alter.ensures c.if-not-may_alter.false) in
    rewritten-leaves c.args.parameters f well.sized (limits _ well.homing.valid).places_least c.find-named.result.item (packed c.args.position) c.args.stores _ _ unpooled _ whole
    (rw (ne_eqb _ 0 c.if-stores-eq0.false) (ap (λ (w : ℕ). lent f.separators f.numbers (set f.words c.find-named.result.item w) f.owners) c.pack.ensures))
