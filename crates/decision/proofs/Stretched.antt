-- A planned stretch stored from the pool: after any number of stores it is the stopped file of what applying the plan leaves.
use mathlib.Core.Path.{◌≡◌, refl, sym, ap, ◌∙◌}
use mathlib.Core.Bool.{Bool, cond}
use mathlib.Core.List.{List, map}
use Prim.Native.Nat.{ℕ, ◌+◌, ◌*◌, ◌≤◌}
use native.Mathlib.Nat.{add-mul, mul-le-mul_right}
use native.Mathlib.Omega.{arith}
use lib.ListN.{length, take, drop, length-take, length-drop}
use lib.Seq.{paste, length-take-le}
use Rattle.buffers.specs.Lists.{written}
use Rattle.buffers.proofs.Written.{length-written}
use Rattle.pages.specs.Shape.{stretch}
use Rattle.page_store.specs.Columns.{columns}
use Rattle.page_store.specs.Stores.{changed_pages, enough, column_stored}
use Rattle.page_store.proofs.Loop.{Fits}
use Rattle.plan_transfer.specs.Sources.{named_item}
use Rattle.plan_transfer.proofs.Fetched.{fetched-stored}
use Rattle.placement.specs.File.{File}
use Rattle.placement.specs.Shape.{Sized}
use Rattle.placement.specs.Hash.{lent}
use Rattle.page_plan.proofs.Applying.{applied}
use Rattle.calls.specs.Stores.{stored_file, store_order}
use Rattle.calls.proofs.Stored.{cols, stored_is}

module _ (up : Bool) (b lo count M n k word owner : ℕ) (f : File) (pool waiting poolowners planned ps ws os : List ℕ) (inside : lo + count ≤ M) (sized : Sized b M f)
    (pool_long : length pool ≡ M * b) (waiting_long : length waiting ≡ M * b) (owners_long : length poolowners ≡ M * b) (planned-long : lo + count ≤ length planned)
    (ps-long : length ps ≡ M * b) (ws-long : length ws ≡ M * b) (os-long : length os ≡ M * b)
    (ps-is : ps ≡ paste pool (lo * b) (map (named_item f.numbers k) (drop (lo * b) pool)) (count * b))
    (ws-is : ws ≡ paste waiting (lo * b) (map (named_item f.words word) (drop (lo * b) pool)) (count * b))
    (os-is : os ≡ paste poolowners (lo * b) (map (named_item f.owners owner) (drop (lo * b) pool)) (count * b)) where
  items : (lo + count) * b ≤ M * b
  items = mul-le-mul_right b inside

  fits-file : Fits b (lo + count) (cols f)
  fits-file = record { numbers = omega (arith, items, sized.of_numbers); words = omega (arith, items, sized.of_words_lem); owners = omega (arith, items, sized.of_owners) }

  fits-pool : Fits b (lo + count) (columns ps ws os)
  fits-pool = record { numbers = omega (arith, items, ps-long); words = omega (arith, items, ws-long); owners = omega (arith, items, os-long) }

  stretch-long : (l : List ℕ) → length l ≡ M * b → length (stretch b lo count l) ≡ count * b
  stretch-long l e = length-take-le (count * b) (drop (lo * b) l) (rw (length-drop (lo * b) l) (omega (arith, e, items, add-mul lo count b)))

  written-there : (l x : List ℕ) → length l ≡ M * b → length x ≡ M * b → length (written (lo * b) (stretch b lo count x) l) ≡ M * b
  written-there l x e d = length-written (lo * b) (stretch b lo count x) l (omega (arith, stretch-long x d, e, items, add-mul lo count b)) ∙ e

  numbers-are : written (lo * b) (stretch b lo count ps) f.numbers ≡ written (lo * b) (map (named_item f.numbers k) (stretch b lo count pool)) f.numbers
  numbers-are = fetched-stored f.numbers pool f.numbers pool ps k b lo count (omega (arith, items, pool_long)) (omega (arith, items, pool_long)) fits-pool.numbers ps-is

  words_are : written (lo * b) (stretch b lo count ws) f.words ≡ written (lo * b) (map (named_item f.words word) (stretch b lo count pool)) f.words
  words_are = fetched-stored f.words waiting f.words pool ws word b lo count (omega (arith, items, waiting_long)) (omega (arith, items, pool_long)) fits-pool.words ws-is

  owners-are : written (lo * b) (stretch b lo count os) f.owners ≡ written (lo * b) (map (named_item f.owners owner) (stretch b lo count pool)) f.owners
  owners-are = fetched-stored f.owners poolowners f.owners pool os owner b lo count (omega (arith, items, owners_long)) (omega (arith, items, pool_long)) fits-pool.owners os-is

  abbrev whole : File
  whole = applied b lo count k word owner pool planned f

  abbrev separators_after_lem : List ℕ
  separators_after_lem = written lo (take count (drop lo planned)) f.separators

  whole_is : whole ≡ lent separators_after_lem (written (lo * b) (stretch b lo count ps) f.numbers) (written (lo * b) (stretch b lo count ws) f.words) (written (lo * b) (stretch b lo count os) f.owners)
  unfolding applied
  whole_is = λ i. record { separators = separators_after_lem; numbers = sym numbers-are i; words = sym words_are i; owners = sym owners-are i }

  whole-sized : Sized b M whole
  whole-sized =
      rw whole_is
      (record {
        of_separators = length-written lo (take count (drop lo planned)) f.separators (omega (arith, sized.of_separators, length-take-le count (drop lo planned) (rw (length-drop lo planned) (omega arith)))) ∙ sized.of_separators;
        of_numbers = written-there f.numbers ps sized.of_numbers ps-long;
        of_words_lem = written-there f.words ws sized.of_words_lem ws-long;
        of_owners = written-there f.owners os sized.of_owners os-long;
      })

  -- the lists that storing the stretch leaves
  pub stretch-stored : (s ns vs us : List ℕ)
      → s ≡ cond (enough n (changed_pages up b lo count (cols f) (columns ps ws os))) separators_after_lem f.separators
      → ns ≡ column_stored b ps (take n (changed_pages up b lo count (cols f) (columns ps ws os))) f.numbers
      → vs ≡ column_stored b ws (take n (changed_pages up b lo count (cols f) (columns ps ws os))) f.words
      → us ≡ column_stored b os (take n (changed_pages up b lo count (cols f) (columns ps ws os))) f.owners
      → lent s ns vs us ≡ stored_file b f whole (store_order up b f whole M) n
  stretch-stored s ns vs us es en ev eu =
      (λ i. record { separators = es i; numbers = en i; words = ev i; owners = eu i })
      ∙ sym (stored_is up b lo count M n f (columns ps ws os) separators_after_lem whole inside sized whole-sized fits-file fits-pool whole_is)
