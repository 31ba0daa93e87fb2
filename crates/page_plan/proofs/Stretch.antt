-- Settling a stretch page by page: what has been planned, what waits, and what is still ahead.
use mathlib.Core.Path.{◌≡◌, refl, sym, ap, ◌∙◌}
use mathlib.Core.Bool.{true}
use mathlib.Core.List.{List, [], ◌∷◌, ◌++◌, map, append_assoc, append-nil}
use Prim.Native.Nat.{ℕ, zero, suc, ◌+◌, ◌-◌, ◌*◌, ◌^◌, ◌≤◌, ◌<◌, zero-le}
use native.Mathlib.Nat.{add-zero, zero-add, add-suc, suc-add, add-mul, suc-mul, mul-le-mul_right}
use native.Mathlib.Numerals.{add-one}
use native.Mathlib.Omega.{arith}
use lib.ListN.{length, take, drop, set, length-append}
use lib.Seq.{slice, length-slice, length-take-le, take-take, take_at, drop_at, drop-drop, take-add}
use lib.Pow.{pow_mono}
use Rattle.buffers.proofs.Lists.{drop-take}
use Rattle.buffers.proofs.Written.{written_none, set-written, written-add}
use Rattle.buffers.specs.Lists.{written, padded}
use Rattle.hashing.specs.declared.Parameters.{Parameters}
use Rattle.generator.specs.Generator.{top_of_lem}
use Rattle.placement.specs.Rule.{Star, Contents, separators}
use Rattle.placement.specs.File.{column}
use Rattle.placement.proofs.Standing.{length-separators}
use Rattle.placement.proofs.Writing.{Roomy, column-append, length-column, separators-append}
use Rattle.page_separator.specs.Words.{source_of}
use Rattle.page_plan.specs.Gather.{group, grouped, Scattered}
use Rattle.page_plan.specs.declared.settling.Settled.{Settled}
use Rattle.page_separator.specs.Probes.{homes_up_to, staying_words, words_separator}
use Rattle.page_plan.specs.Settle.{Settlement, slots_of}
use Rattle.page_plan.proofs.Grouping.{grouped-next, grouped-add}
use Rattle.page_separator.proofs.Cutting.{separator_fits, separator_most}
use Rattle.page_plan.specs.Plans.{star_of, waits, settled, carried_on_lem, plans, remains, PagePlanned, Planned, Started, Settling, end_of}
use Rattle.page_plan.proofs.Pouring.{length-waits}
use Rattle.page_plan.proofs.RuleOverWords.{near-probing, near-onward}
use Rattle.page_plan.proofs.Blocks.{grouped-again, plans-grouped}

-- the last page comes after the others
module _ (q : Parameters) (lo : ℕ) (l : List ℕ) where
  plans-last : (v n : ℕ) (w : List ℕ) → plans q lo v (suc n) w l
      ≡ plans q lo v n w l ++ (settled q (lo + (v + n)) (remains q lo v n w l ++ group lo (v + n) l) ∷ [])
  unfolding plans remains
  plans-last v zero w = rw (add-zero v)
  plans-last v (suc n) w =
      ap (λ (cs : List Contents). settled q (lo + v) (w ++ group lo v l) ∷ cs)
      (rw (suc-add v n, ← add-suc v n) at (plans-last (suc v) n (carried_on_lem q (lo + v) (w ++ group lo v l))))

  remains-last : (v n : ℕ) (w : List ℕ) → remains q lo v (suc n) w l
      ≡ carried_on_lem q (lo + (v + n)) (remains q lo v n w l ++ group lo (v + n) l)
  unfolding remains
  remains-last v zero w = rw (add-zero v)
  remains-last v (suc n) w = rw (suc-add v n, ← add-suc v n) at (remains-last (suc v) n (carried_on_lem q (lo + v) (w ++ group lo v l)))

  -- what is carried past n pages is homed at these pages or lower
  pub remains-near : (v n : ℕ) (w : List ℕ) → homes_up_to (lo + v) w ≡ true → homes_up_to (lo + (v + n)) (remains q lo v n w l) ≡ true
  unfolding remains
  remains-near v zero w h = rw (add-zero v) h
  remains-near v (suc n) w h =
      rw (add-suc v n, ← suc-add v n)
      (remains-near (suc v) n (carried_on_lem q (lo + v) (w ++ group lo v l))
      (near-onward q (lo + v) (lo + suc v) (w ++ group lo v l) (omega arith) (near-probing lo v w l h)))

-- at most b stay
pub plans-roomy : (q : Parameters) (lo v n : ℕ) (w l : List ℕ) → Roomy q.places (plans q lo v n w l)
unfolding plans settled words_separator
plans-roomy q lo v zero w l = tt
plans-roomy q lo v (suc n) w l =
    let here : List ℕ = w ++ group lo v l in (
      rw (length-waits (staying_words q (lo + v) (words_separator q (lo + v) here) here)) (separator_fits q (lo + v) here (top_of_lem q.bits)),
      plans-roomy q lo (suc v) n (carried_on_lem q (lo + v) here) l,
    )

pub length-plans : (q : Parameters) (lo v n : ℕ) (w l : List ℕ) → length (plans q lo v n w l) ≡ n
unfolding plans
length-plans q lo v zero w l = refl
length-plans q lo v (suc n) w l = ap suc (length-plans q lo (suc v) n (carried_on_lem q (lo + v) (w ++ group lo v l)) l)

-- a separator is a byte
pub separator_byte : (q : Parameters) (p : ℕ) (l : List ℕ) → q.bits ≤ 8 → words_separator q p l < 256
unfolding words_separator top_of_lem
separator_byte q p l h =
    let power : 2 ^ q.bits ≤ 2 ^ 8 = pow_mono h in
    omega (arith, separator_most q p l (top_of_lem q.bits))

pub slice-join : (f m t : ℕ) (l : List ℕ) → f ≤ m → m ≤ t → t ≤ length l → slice f t l ≡ slice f m l ++ slice m t l
slice-join f m t l a b c =
    drop-take f t l
    ∙ ap (λ (k : ℕ). take k (drop f l)) (sums)
    ∙ take-add (m - f) (t - m) (drop f l)
    ∙ ap (λ (s : List ℕ). take (m - f) (drop f l) ++ take (t - m) s) (drop-drop (m - f) f l ∙ ap (λ (k : ℕ). drop k l) back)
    ∙ rw (drop-take f m l, drop-take m t l)
  where
    sums : t - f ≡ m - f + (t - m)
    sums = omega arith

    back : f + (m - f) ≡ m
    back = omega arith

-- what was carried in stands as it did
pub carried_same : (lo count carried : ℕ) (l U W ends : List ℕ) → Scattered lo count carried l U W ends → carried + length l ≤ length U → take carried W ≡ take carried U
carried_same lo count carried l U W ends S h =
    sym (take-take carried (carried + length l) W (omega arith))
    ∙ ap (take carried) S.words
    ∙ take_at (take carried U) (grouped lo 0 count l) carried (length-take-le carried U (omega arith))

pub started : (lo count carried : ℕ) (l U W ends : List ℕ) → Scattered lo count carried l U W ends → carried + length l ≤ length U → length W ≡ length U
    → Started lo count carried l W ends
started lo count carried l U W ends S h e =
    record { room = omega arith; words = S.words ∙ ap (λ (s : List ℕ). s ++ grouped lo 0 count l) (sym (carried_same lo count carried l U W ends S h)); ended = S.ended }

module _ (lo count carried : ℕ) (l W ends : List ℕ) (S : Started lo count carried l W ends) where
  size : length (take carried W) ≡ carried
  size = length-take-le carried W (omega (arith, S.room))

  whole : length (grouped lo 0 count l) ≡ length l
  whole =
      omega (arith, ap length S.words, length-append (take carried W) (grouped lo 0 count l), size, length-take-le (carried + length l) W S.room)

  pub ends-rise : (v : ℕ) → end_of carried lo l v ≤ end_of carried lo l (suc v)
  ends-rise v = omega (arith, ap length (grouped-next lo v l), length-append (grouped lo 0 v l) (group lo v l))

  split : (v : ℕ) → v ≤ count → grouped lo 0 count l ≡ grouped lo 0 v l ++ grouped lo v (count - v) l
  split v h =
      ap (λ (n : ℕ). grouped lo 0 n l) more ∙ grouped-add lo 0 v (count - v) l ∙ ap (λ (k : ℕ). grouped lo 0 v l ++ grouped lo k (count - v) l) (zero-add v)
    where
      more : count ≡ v + (count - v)
      more = omega arith

  pub ends-within : (v : ℕ) → v ≤ count → end_of carried lo l v ≤ carried + length l
  ends-within v h = omega (arith, whole, ap length (split v h), length-append (grouped lo 0 v l) (grouped lo v (count - v) l))

  pub ends_last : end_of carried lo l count ≡ carried + length l
  ends_last = ap (λ (n : ℕ). carried + n) whole

  -- the words that stand behind those carried in are the groups
  pub stands : slice carried (carried + length l) W ≡ grouped lo 0 count l
  stands = ap (drop carried) S.words ∙ drop_at (take carried W) (grouped lo 0 count l) carried size

  -- .. and they are in groups themselves
  pub started-again : Started lo count carried (grouped lo 0 count l) W ends
  started-again =
      record {
        room = omega (arith, whole, S.room);
        words =
            ap (λ (n : ℕ). take (carried + n) W) whole
            ∙ S.words
            ∙ ap (λ (s : List ℕ). take carried W ++ s) (sym (grouped-again lo count count l (omega arith)));
        ended = λ v h. S.ended v h ∙ ap (λ (s : List ℕ). carried + length s) (sym (grouped-again lo (suc v) count l h));
      }

  -- so much of the list is the words carried in and the first v groups
  groups-up-to : (v : ℕ) → v ≤ count → take (end_of carried lo l v) W ≡ take carried W ++ grouped lo 0 v l
  groups-up-to v h =
      sym (take-take (end_of carried lo l v) (carried + length l) W (ends-within v h))
      ∙ ap (take (end_of carried lo l v))
      (S.words ∙ ap (λ (s : List ℕ). take carried W ++ s) (split v h) ∙ sym (append_assoc (take carried W) (grouped lo 0 v l) (grouped lo v (count - v) l)))
      ∙ take_at (take carried W ++ grouped lo 0 v l) (grouped lo v (count - v) l) (end_of carried lo l v)
      (length-append (take carried W) (grouped lo 0 v l) ∙ ap (λ (k : ℕ). k + length (grouped lo 0 v l)) size)

  -- group v stands between its ends
  group-there : (v : ℕ) → v < count → slice (end_of carried lo l v) (end_of carried lo l (suc v)) W ≡ group lo v l
  group-there v h =
      ap (drop (end_of carried lo l v))
      (groups-up-to (suc v) h ∙ ap (λ (s : List ℕ). take carried W ++ s) (grouped-next lo v l)
      ∙ sym (append_assoc (take carried W) (grouped lo 0 v l) (group lo v l)))
      ∙ drop_at (take carried W ++ grouped lo 0 v l) (group lo v l) (end_of carried lo l v)
      (length-append (take carried W) (grouped lo 0 v l) ∙ ap (λ (k : ℕ). k + length (grouped lo 0 v l)) size)

pub settling-none : (q : Parameters) (lo count carried : ℕ) (l W pool planned : List ℕ) → Settling q lo count carried l W pool planned pool W planned 0 0
unfolding remains plans column separators grouped
settling-none q lo count carried l W pool planned =
    record {
      upto = zero-le;
      start = zero-le;
      waiting = ap (λ (k : ℕ). take k W) (add-zero carried);
      ahead = refl;
      sources = written_none (lo * q.places) pool;
      planned_are = written_none lo planned;
      long_pool = refl;
      long_waiting = refl;
      long_planned = refl;
    }

module _ (q : Parameters) (lo count carried : ℕ) (l W pool planned ends : List ℕ) (S : Started lo count carried l W ends)
    (pool' W' planned' : List ℕ) (from v : ℕ) (I : Settling q lo count carried l W pool planned pool' W' planned' from v) (more : v < count) where
  -- page lo + v is probed by what waits and its group
  pub probed : slice from (end_of carried lo l (suc v)) W' ≡ remains q lo 0 v (take carried W) l ++ group lo v l
  probed =
      let e = end_of carried lo l v in
      let e' = end_of carried lo l (suc v) in
      slice-join from e e' W' I.start (ends-rise lo count carried l W ends S v)
      (omega (arith, ends-within lo count carried l W ends S (suc v) more, S.room, I.long_waiting))
      ∙ ap (λ (s : List ℕ). s ++ slice e e' W') I.waiting
      ∙ ap (λ (s : List ℕ). remains q lo 0 v (take carried W) l ++ s)
      (drop-take e e' W' ∙ ap (take (e' - e)) I.ahead ∙ sym (drop-take e e' W) ∙ group-there lo count carried l W ends S v more)

  -- .. all homed at that page or lower
  pub probed-near : homes_up_to lo (take carried W) ≡ true → homes_up_to (lo + v) (slice from (end_of carried lo l (suc v)) W') ≡ true
  probed-near h =
      ap (homes_up_to (lo + v)) probed
      ∙ near-probing lo v (remains q lo 0 v (take carried W) l) l
      (rw (zero-add v) at (remains-near q lo l 0 v (take carried W) (rw (add-zero lo) h)))

  pub probed-inside : from ≤ end_of carried lo l (suc v)
  probed-inside = omega (arith, I.start, ends-rise lo count carried l W ends S v)

  pub probed-within : end_of carried lo l (suc v) ≤ length W'
  probed-within = omega (arith, ends-within lo count carried l W ends S (suc v) more, S.room, I.long_waiting)

words-waits : (l : List ℕ) → map (λ (s : Star). s.payload.word) (waits l) ≡ map source_of (slots_of l)
unfolding waits star_of source_of
words-waits l = go (slots_of l)
  where
    go : (l : List ℕ) → map (λ (s : Star). s.payload.word) (map star_of l) ≡ map source_of l
    go [] = refl
    go (x ∷ l) = ap (λ (s : List ℕ). source_of x ∷ s) (go l)

-- the sources of the slots are the page's column
pub sources_column : (b v kept : ℕ) (slots l : List ℕ) → take kept slots ≡ slots_of l
    → padded b (map source_of (take kept slots)) ≡ column b (λ (s : Star). s.payload.word) (record { separator = v; stars = waits l } ∷ [])
unfolding column
sources_column b v kept slots l e =
    ap (padded b) (ap (map source_of) e ∙ sym (words-waits l)) ∙ sym (append-nil (padded b (map (λ (s : Star). s.payload.word) (waits l))))

pub page-planned : (q : Parameters) (p : ℕ) (l : List ℕ) (reach : ℕ) (W W' slots pool pool' planned : List ℕ) (r : Settled)
    → Settlement q p (words_separator q p l) l reach W W' slots r
    → pool' ≡ written (p * q.places) (padded q.places (map source_of (take r.kept slots))) pool → p < length planned
    → PagePlanned q p l reach W W' pool pool' planned (set planned p r.separator) r.from
unfolding settled column carried_on_lem separators
page-planned q p l reach W W' slots pool pool' planned r S e h =
    let v : ℕ = words_separator q p l in
    record {
      sources =
          e ∙ ap (λ (s : List ℕ). written (p * q.places) s pool)
          (sources_column q.places v r.kept slots (staying_words q p v l) S.page);
      separator = set-written planned p r.separator h ∙ ap (λ (s : ℕ). written p (s ∷ []) planned) S.separator;
      order = omega (arith, S.start);
      passed = S.passed;
      behind = S.behind;
    }

module _ (q : Parameters) (lo count carried : ℕ) (l W pool planned ends : List ℕ) (S : Started lo count carried l W ends)
    (pool' W' planned' : List ℕ) (from v : ℕ) (I : Settling q lo count carried l W pool planned pool' W' planned' from v) (more : v < count)
    (reach : ℕ) (there : reach ≡ end_of carried lo l (suc v)) (W'' pool'' planned'' : List ℕ) (r : ℕ)
    (P : PagePlanned q (lo + v) (slice from reach W') reach W' W'' pool' pool'' planned' planned'' r)
    (inside : (lo + count) * q.places ≤ length pool) (within : lo + count ≤ length planned) where
  w : List ℕ
  w = take carried W

  here : Contents
  here = settled q (lo + v) (remains q lo 0 v w l ++ group lo v l)

  is-here : slice from reach W' ≡ remains q lo 0 v w l ++ group lo v l
  unfolding w
  is-here = ap (λ (k : ℕ). slice from k W') there ∙ probed q lo count carried l W pool planned ends S pool' W' planned' from v I more

  one_more : plans q lo 0 (suc v) w l ≡ plans q lo 0 v w l ++ (here ∷ [])
  unfolding here
  one_more = rw (zero-add v) at (plans-last q lo l 0 v w)

  next-sources : pool'' ≡ written (lo * q.places) (column q.places (λ (s : Star). s.payload.word) (plans q lo 0 (suc v) w l)) pool
  unfolding here w
  next-sources =
      let done : List ℕ = column q.places (λ (s : Star). s.payload.word) (plans q lo 0 v w l) in
      let size : length done ≡ v * q.places
      = length-column q.places (λ (s : Star). s.payload.word) (plans q lo 0 v w l) (plans-roomy q lo 0 v w l) ∙ ap (λ (n : ℕ). n * q.places) (length-plans q lo 0 v w l) in
      let seam : (lo + v) * q.places ≡ lo * q.places + length done = add-mul lo v q.places ∙ ap (λ (n : ℕ). lo * q.places + n) (sym size) in
      P.sources
      ∙ ap (λ (m : List ℕ). written ((lo + v) * q.places) (column q.places (λ (s : Star). s.payload.word) (settled q (lo + v) m ∷ [])) pool') is-here
      ∙ ap (λ (m : List ℕ). written ((lo + v) * q.places) (column q.places (λ (s : Star). s.payload.word) (here ∷ [])) m) I.sources
      ∙ ap (λ (k : ℕ). written k (column q.places (λ (s : Star). s.payload.word) (here ∷ [])) (written (lo * q.places) done pool)) seam
      ∙ written-add (lo * q.places) done (column q.places (λ (s : Star). s.payload.word) (here ∷ [])) pool (omega (arith, add-mul lo count q.places))
      ∙ ap (λ (m : List ℕ). written (lo * q.places) m pool)
      (sym (column-append q.places (λ (s : Star). s.payload.word) (plans q lo 0 v w l) (here ∷ []))
      ∙ ap (column q.places (λ (s : Star). s.payload.word)) (sym one_more))

  next-planned : planned'' ≡ written lo (separators (plans q lo 0 (suc v) w l)) planned
  unfolding here w
  next-planned =
      let done : List ℕ = separators (plans q lo 0 v w l) in
      let size : length done ≡ v = length-separators (plans q lo 0 v w l) ∙ length-plans q lo 0 v w l in
      P.separator
      ∙ ap (λ (m : List ℕ). written (lo + v) (separators (settled q (lo + v) m ∷ [])) planned') is-here
      ∙ ap (λ (m : List ℕ). written (lo + v) (separators (here ∷ [])) m) I.planned_are
      ∙ ap (λ (k : ℕ). written (lo + k) (separators (here ∷ [])) (written lo done planned)) (sym size)
      ∙ written-add lo done (separators (here ∷ [])) planned (omega arith)
      ∙ ap (λ (m : List ℕ). written lo m planned) (sym (separators-append (plans q lo 0 v w l) (here ∷ [])) ∙ ap separators (sym one_more))

  next-waiting : slice r (end_of carried lo l (suc v)) W'' ≡ remains q lo 0 (suc v) w l
  next-waiting =
      ap (λ (k : ℕ). slice r k W'') (sym there)
      ∙ P.passed
      ∙ ap (carried_on_lem q (lo + v)) is-here
      ∙ sym (rw (zero-add v) at (remains-last q lo l 0 v w))

  next-ahead : drop (end_of carried lo l (suc v)) W'' ≡ drop (end_of carried lo l (suc v)) W
  next-ahead =
      let e = end_of carried lo l v in
      let e' = end_of carried lo l (suc v) in
      let sum : e + (e' - e) ≡ e' = omega (arith, ends-rise lo count carried l W ends S v) in
      ap (λ (k : ℕ). drop k W'') (sym there)
      ∙ P.behind
      ∙ ap (λ (k : ℕ). drop k W') (there ∙ sym sum)
      ∙ sym (drop-drop (e' - e) e W')
      ∙ ap (drop (e' - e)) I.ahead
      ∙ drop-drop (e' - e) e W
      ∙ ap (λ (k : ℕ). drop k W) sum

  pub settling-next : length pool'' ≡ length pool' → length W'' ≡ length W' → length planned'' ≡ length planned'
      → Settling q lo count carried l W pool planned pool'' W'' planned'' r (v + 1)
  unfolding w
  settling-next lp lw ln =
      rw (add-one v)
      (record {
        upto = more;
        start = omega (arith, P.order);
        waiting = next-waiting;
        ahead = next-ahead;
        sources = next-sources;
        planned_are = next-planned;
        long_pool = lp ∙ I.long_pool;
        long_waiting = lw ∙ I.long_waiting;
        long_planned = ln ∙ I.long_planned;
      })

-- all pages planned, and what is left moved to the front
pub planned-all : (q : Parameters) (lo count carried : ℕ) (l W pool planned ends : List ℕ) → Started lo count carried l W ends
    → (pool' W' planned' : List ℕ) (from v : ℕ) → Settling q lo count carried l W pool planned pool' W' planned' from v → v ≡ count
    → (W'' : List ℕ) (end r : ℕ) → end ≡ carried + length l → r ≡ end - from → take r W'' ≡ slice from end W'
    → Planned q lo count (take carried W) l pool pool' planned planned' W'' r
planned-all q lo count carried l W pool planned ends S pool' W' planned' from v I ev W'' end r ee er et =
    let last : end_of carried lo l v ≡ end = ap (end_of carried lo l) ev ∙ ends_last lo count carried l W ends S ∙ sym ee in
    let left : slice from end W' ≡ remains q lo 0 count (take carried W) l
    = ap (λ (k : ℕ). slice from k W') (sym last) ∙ I.waiting ∙ ap (λ (n : ℕ). remains q lo 0 n (take carried W) l) ev in
    record {
      sources = I.sources ∙ ap (λ (n : ℕ). written (lo * q.places) (column q.places (λ (s : Star). s.payload.word) (plans q lo 0 n (take carried W) l)) pool) ev;
      separators_are = I.planned_are ∙ ap (λ (n : ℕ). written lo (separators (plans q lo 0 n (take carried W) l)) planned) ev;
      passed = et ∙ left;
      counted = er ∙ sym (length-slice from end W' (omega (arith, S.room, I.long_waiting))) ∙ ap length left;
    }

-- the plan of words in groups is the plan of the words
pub planned-again : (q : Parameters) (lo count : ℕ) (w l pool pool' planned planned' W' : List ℕ) (r : ℕ)
    → Planned q lo count w (grouped lo 0 count l) pool pool' planned planned' W' r → Planned q lo count w l pool pool' planned planned' W' r
planned-again q lo count w l pool pool' planned planned' W' r P =
    let both = plans-grouped q lo count w l in
    record {
      sources = P.sources ∙ ap (λ (cs : List Contents). written (lo * q.places) (column q.places (λ (s : Star). s.payload.word) cs) pool) both.0;
      separators_are = P.separators_are ∙ ap (λ (cs : List Contents). written lo (separators cs) planned) both.0;
      passed = P.passed ∙ both.1;
      counted = P.counted ∙ ap length both.1;
    }

-- a page of the stretch is within a list that holds the stretch
pub page-inside : (lo v count places n : ℕ) → v < count → (lo + count) * places ≤ n → (lo + v) * places + places ≤ n
page-inside lo v count places n h k =
    let below : suc (lo + v) ≤ lo + count = omega arith in
    omega (arith, suc-mul (lo + v) places, mul-le-mul_right places below)
