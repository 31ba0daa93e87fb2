use mathlib.Core.Path.{◌≡◌, refl, sym, ◌∙◌}
use mathlib.Core.Bool.{true}
use mathlib.Core.List.{List}
use Prim.Native.Nat.{ℕ, ◌+◌, ◌<◌}
use native.Mathlib.Omega.{arith}
use lib.ListN.{length, get_or}
use borrow.Author.Tests.{leb-true}
use Rattle.hashing.specs.declared.Geometry.{Geometry}
use Rattle.hashing.specs.Limits.{valid_parameters}
use Rattle.generator.specs.Generator.{top_of_lem}
use Rattle.soundness.specs.Stretch.{Items, HomesAt}
use Rattle.soundness.proofs.AtHome.{Topped, home-next, home_all, home-rest}
use Rattle.soundness.proofs.stretches.sound_at_home.Goals as goal

-- the page's separator is the greatest
topped : (g : Geometry) (seps ns ws os hs : List ℕ) (at to page : ℕ) → valid_parameters g.parameters ≡ true → length seps ≡ g.parameters.pages → page < g.parameters.pages
    → get_or seps page 0 ≡ top_of_lem g.parameters.bits → Items (at + g.parameters.places) (to + g.parameters.places) ns ws os hs → HomesAt g g.parameters.places at to ns hs
    → Topped g seps ns ws os hs at to g.parameters.places page
topped g seps ns ws os hs at to page valid separated inside top items homes =
    record { valid = valid; inside = omega arith; top = top; all = refl; items = items; homes = homes }

pub returns-then-number-eq0 : goal.returns-then-number-eq0
returns-then-number-eq0 c = λ e.
    let a = c.args in
    let p = c.requires in
    home-rest a.numbers.now a.words.now a.owners.now a.homes.now _ _ _ _ a.geometry a.separators.now
    (topped _ _ _ _ _ _ _ _ _ p.parameters_value p.separators_len p.page_lt_pages (c.if-separators-page.false ∙ c.top_of.ensures) p.items p.homes_at)
    _ _ c.loop-i.invariant c.loop-i-test.true (omega (arith, c.if-last-gt-LAST_NUMBER.false)) (c.all_unused.ensures e)

pub loop-i-preserved : goal.loop-i-preserved
loop-i-preserved c =
    let a = c.args in
    home-next a.numbers.now a.words.now a.owners.now a.homes.now _ _ _ _ _ _ c.loop-i.invariant c.loop-i-test.true _ refl
    (omega (arith, c.if-number-last.false)) c.if-homes-to.false (sym c.word_valid.ensures ∙ c.if-not-word_valid.false)

pub returns : goal.returns
returns c = λ e.
    let a = c.args in
    let p = c.requires in
    home_all a.numbers.now a.words.now a.owners.now a.homes.now _ _ _ _ a.geometry a.separators.now
    (topped _ _ _ _ _ _ _ _ _ p.parameters_value p.separators_len p.page_lt_pages (c.if-separators-page.false ∙ c.top_of.ensures) p.items p.homes_at)
    _ _ c.loop-i.invariant (omega (arith, c.loop-i-test.false)) (leb-true _ _ e)
