use Rattle.std.proofs.Common.{◌<◌, rules, refl, ◌∙◌}
use Rattle.std.proofs.lemmas.Iterator.Consumers.{YieldsList-from_first}
use Rattle.model.specs.Problem.{cell_of, solved, states}
use Rattle.model.specs.Read.{problem_of, cells_of}
use Rattle.questions.proofs.Stepping.{at-each-item, every-from_items, solved-all}
use Rattle.questions.proofs.states.all_solved.Goals as goal

pub all-requires-clause-callable : goal.all-requires-clause-callable
all-requires-clause-callable c =
    at-each-item 0 (YieldsList-from_first _ _ _ c.successors.ensures.0) (λ x q k. search rules)
    (λ x k lt e. let below : x < states (problem_of c.args.sheet.now) = rw e (c.requires k lt) in search rules)

pub returns : goal.returns
returns c =
    every-from_items 0 (λ t. solved (cell_of (cells_of c.args.sheet.now) t)) _ (YieldsList-from_first _ _ _ c.successors.ensures.0)
    (λ i lt. refl) c.all.ensures.ran (λ x b q k. search rules) ∙ solved-all (cells_of c.args.sheet.now) _
