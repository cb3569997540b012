use Rattle.std.proofs.Common.{◌≡◌, ◌+◌, ◌≤◌, ◌*◌, List, ℕ, [], length, refl, sym, ap, ◌∙◌, arith}
use Rattle.model.specs.Problem.{value_of}
use Rattle.model.specs.Read.{problem_of, cells_of}
use Rattle.sheet.specs.Kinds.{kind_is}
use Rattle.sheet.specs.Sheet.{action_of, of_kind, written_price}
use Rattle.sheet.proofs.Laws.{below-first, below-rest}
use Rattle.sheet.proofs.Joining.{Sums, of-kind-fits, sums_none, sums-more, sums-price, sums-dearest}
use Rattle.sheet.proofs.fields.Indexed.price.Goals as goal
use Rattle.sheet.proofs.fields.Indexed.price.Goals.{After-from}

pub loop-t-init : goal.loop-t-init
loop-t-init c = rw (c.into_iter-t-iterator.ensures.into_iter_gives, c.successors-t-items.ensures.0) record {
  sums = sums_none c.successors-t-items.ensures.1 c.first-dearest.ensures.0;
  below = c.requires;
}

pub value-requires : goal.value-requires
value-requires c = below-first c.in-Some.ensures.steps c.loop-t.invariant.below

pub overflow_add-total : goal.overflow_add-total
overflow_add-total c =
    omega (arith, c.loop-t.invariant.sums.summed, c.successors-t-items.ensures.2, c.from-x.ensures, ap length c.in-Some.ensures.steps)

pub loop-t-preserved : goal.loop-t-preserved
loop-t-preserved c = record {
  sums = sums-more (rw c.in-Some.ensures.steps at c.loop-t.invariant.sums) (c.from-x.ensures ∙ c.value.ensures)
      (omega (arith, c.from-x.ensures)) c.max-most.ensures c.dearer-dearest.ensures;
  below = below-rest c.in-Some.ensures.steps c.loop-t.invariant.below;
}

-- none is left: the sums are those of all successors, at least the largest value and at most sixteen of them
all : (c : After-from) → Sums (value_of (cells_of c.args.self.now)) (action_of c.args.action.now).successors c.loop-t.total
    c.loop-t.most c.loop-t.dearest []
all c = rw c.in-None.ensures.steps.0 at c.loop-t.invariant.sums

sum-fits : (c : After-from) → (c.loop-t.most ≤ c.of_kind-sum.result) × (c.of_kind-sum.result ≤ 4294967296 * 16)
sum-fits c =
    let fit = of-kind-fits (kind_is c.kind.result) c.loop-t.most c.loop-t.total (all c).within in
    omega (arith, fit, c.of_kind-sum.ensures, (all c).summed, c.successors-t-items.ensures.2)

pub overflow_add-from : goal.overflow_add-from
overflow_add-from c = omega (arith, sum-fits c, c.from.ensures)

pub written-requires : goal.written-requires
written-requires c = omega (arith, sum-fits c)

pub returns : goal.returns
returns c =
    let sums = all (goal.at.returns c).After-from in
    let paid : c.from.result + c.of_kind-sum.result ≡
    (action_of c.args.action.now).cost + of_kind (problem_of c.args.self.now).kind c.loop-t.most c.loop-t.total =
    rw (c.from.ensures, c.cost.ensures, c.of_kind-sum.ensures, c.kind.ensures) refl in (
      c.written.ensures.0 ∙ (ap (written_price c.loop-t.most) paid ∙ sym (sums-price sums _ (action_of c.args.action.now) refl)),
      c.written.ensures.1,
      sums-dearest sums,
    )
