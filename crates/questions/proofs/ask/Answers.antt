use mathlib.Core.Path.{◌≡◌}
use Rattle.std.proofs.Common.{rules}
use Rattle.model.specs.Questions.{first_no, sheet_questions_under}
use Rattle.questions.specs.Table.{served_by}
use Rattle.questions.specs.Verdicts.{verdict}
use Rattle.questions.proofs.Asking.{answer-is, accepted-table, refused-table}
use Rattle.questions.proofs.ask.Goals as goal
use Rattle.questions.proofs.ask.Goals.{After-ask_under-asked}
use lib.ListN.{length}

-- the verdict under the limit that the table serves
asked : (c : After-ask_under-asked) → c.ask_under-asked.result ≡
    verdict (first_no (sheet_questions_under (served_by (length c.args.table.now)) c.args.sheet.now))
asked c = rw c.served.ensures at c.ask_under-asked.ensures.value

pub returns-then-is_err : goal.returns-then-is_err
returns-then-is_err c =
    let is = asked (goal.at.returns-then-is_err c).After-ask_under-asked in record {
      answer = answer-is c.args.sheet.now c.args.table.now _ is;
      table = refused-table c.args.sheet.now c.args.table.now _ is c.clear.new.table (search rules) (search rules);
    }

pub returns-else-is_err : goal.returns-else-is_err
returns-else-is_err c =
    let is = asked (goal.at.returns-else-is_err c).After-ask_under-asked in record {
      answer = answer-is c.args.sheet.now c.args.table.now _ is;
      table = accepted-table c.args.sheet.now c.args.table.now _ is _ (search rules) c.ask_under-asked.ensures.table_after;
    }
