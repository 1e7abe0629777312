use Rattle.std.proofs.Common.{◌≡◌, ℕ, ◌+◌, ◌-◌, ◌≤◌, cond, eqb, List, map, get_or, set, replicate, ap, ◌∙◌, zero-add, arith}
use mathlib.Core.Path.{fun_ext}
use Rattle.std.specs.List.{range_with_len}
use Rattle.std.proofs.lemmas.Bool.{cond_both}
use Rattle.credits.specs.Resources.{ResourceDay}
use Rattle.credits.specs.declared.pool.Market.TheVariants.{DayAhead, RealTime}
use Rattle.credits.specs.declared.hourly.HourlyCents.{HourlyCents}
use Rattle.credits.specs.Grids.{market_pool, cell, Allotted}
use Rattle.credits.proofs.Cells.{get_or_pool, pool_added_to}
use Rattle.credits.proofs.allocating.hour_row.Goals as goal

-- one amount in an empty row
abbrev lone : ℕ → ℕ → ℕ → ℕ
lone p c q = 0 + cond (eqb q p) c 0

none_at : (p : ℕ) → 1 ≤ p → p ≤ 21 → (none : List ℕ) → none ≡ replicate 21 0 → get_or none (p - 1) 0 ≡ 0
none_at p low high none empty = ap (λ xs. get_or xs (p - 1) 0) empty ∙ get_or_pool 21 (λ _. 0) p low high

module _ (p c : ℕ) (low : 1 ≤ p) (high : p ≤ 21) (none once : List ℕ) (empty : none ≡ replicate 21 0) (added : once ≡ set none (p - 1) (get_or none (p - 1) 0 + c)) where
  once_is : once ≡ map (lone p c) (range_with_len 1 21)
  once_is = pool_added_to 21 (λ _. 0) p low high c none once empty added

  once_small : (q : ℕ) → 1 ≤ q → q ≤ 21 → get_or once (q - 1) 0 ≤ c
  once_small q l h =
      let s : cond (eqb q p) c 0 ≤ c = cond_both (eqb q p) c 0 (λ n. n ≤ c) (λ _. omega arith) (λ _. omega arith) in
      omega (arith, ap (λ xs. get_or xs (q - 1) 0) once_is ∙ get_or_pool 21 (lone p c) q l h)

-- two amounts are an hour's
cells : (x : ResourceDay) (h : ℕ) (cents : HourlyCents) (p q : ℕ) → Allotted x cents → p ≡ market_pool DayAhead x h → q ≡ market_pool RealTime x h
    → (n : ℕ) → lone p (get_or cents.day_ahead.cents h 0) n + cond (eqb n q) (get_or cents.real_time.cents h 0) 0 ≡ cell x h n
unfolding cell
cells x h cents p q a e f n =
    let d = a.day_ahead in
    let r = a.real_time in
    let z = zero-add (cond (eqb n p) (get_or cents.day_ahead.cents h 0) 0) in
    cc

pub add-requires-2 : goal.add-requires-2
add-requires-2 c =
    let p = c.pool.result in
    let q = c.pool-2.result in
    omega (
      arith,
      once_small p.number (get_or c.args.cents.now.day_ahead.cents c.args.hour 0) p.from_one p.few
          c.none-row.result.cents c.add.new.self.cents c.none-row.ensures c.add.ensures.value q.number q.from_one q.few,
      c.args.cents.now.day_ahead.small c.args.hour,
      c.args.cents.now.real_time.small c.args.hour,
    )

pub returns : goal.returns
returns c =
    let p = c.pool.result in
    let q = c.pool-2.result in
    let m = get_or c.args.cents.now.day_ahead.cents c.args.hour 0 in
    let n = get_or c.args.cents.now.real_time.cents c.args.hour 0 in
    let once = once_is p.number m p.from_one p.few c.none-row.result.cents c.add.new.self.cents c.none-row.ensures c.add.ensures.value in
    let twice = pool_added_to 21 (lone p.number m) q.number q.from_one q.few n c.add.new.self.cents c.add-2.new.self.cents once c.add-2.ensures.value in
    ap (λ xs. record { cents = xs }) (twice ∙ ap (λ g. map g (range_with_len 1 21)) (fun_ext (cells c.args.unit.now c.args.hour c.args.cents.now p.number q.number c.requires.1 c.pool.ensures c.pool-2.ensures)))
