-- unfolding: computing use: Rattle.model.proofs.Computing.{computing} What computes: whoever names `computing` on an `unfolding` line
-- unfolds all that a call's answer, bytes and table need at a literal sheet.
use Rattle.model.specs.Tests.{also, all, every}
use Rattle.model.specs.Limits.{ceiling}
use Rattle.model.specs.Format.{be16, be32, decision_tag, decision_length, successors_bytes, actions_bytes, form_bytes, node_bytes}
use Rattle.model.specs.Format.{nodes_bytes, kind_byte, write, actions_size, node_size, offsets_from}
use Rattle.model.specs.Read.{action_fits, successors_read, action_read, actions_good, actions_read, actions_long, field_fits}
use Rattle.model.specs.Read.{form_read, header_fits, decision_fits, nodes_good, nodes_read, cells_read, kind_of, problem_of, cells_of}
use Rattle.model.specs.Cost.{amount, cost_of, both}
use Rattle.model.specs.QValue.{join, joined, dearest_from, dearest, least_from}
use Rattle.model.specs.Questions.{question1, question2, question3, question4, count_is, count_right, question10}
use Rattle.model.specs.Questions.{costs_in_range, chosen_in_range, cell_in_range, question5}
use Rattle.model.specs.Questions.{apart, ascending, successors_in_order, question6}
use Rattle.model.specs.Questions.{value_under, question7, all_solved, passed_by, mark_earned, question8, question9, first_no}
use Rattle.model.specs.Questions.{sheet_refusal_under, refusal_under, accepted_under}
use Rattle.model.specs.Earlier.{instead, strict_refusal, strictly_accepted, joined_values, has_check, checked_refusal, checked_accepted}
use Rattle.model.specs.Earlier.{is_plain, plain_refusal}
use Rattle.model.specs.Ldfs.{on_test, on_visit, update, finish, if_dear_by, visit_all_by, try_one_by, try_all_by, visit_open_by, visit_by}
use Rattle.model.specs.Ldfs.{on_pass, passes_by, work_by}
use Rattle.model.specs.Report.{outcome_at, outcome_of, on_refusal, answer_under, report, bytes_under, index_table, refused_table}
use Rattle.model.specs.Report.{checked_table, table_under}

-- fields written, and their offsets
unfoldable computing_forms : Unit {0}
unfolding be16 be32 decision_tag decision_length form_bytes
computing_forms = tt

unfoldable computing_bytes : Unit {0}
unfolding computing_forms successors_bytes actions_bytes node_bytes nodes_bytes kind_byte write actions_size node_size offsets_from
computing_bytes = tt

-- are fields in place?
unfoldable computing_good : Unit {0}
unfolding action_fits actions_good actions_long field_fits header_fits decision_fits nodes_good
computing_good = tt

-- what they say
unfoldable computing_read : Unit {0}
unfolding successors_read action_read actions_read form_read nodes_read cells_read kind_of problem_of cells_of
computing_read = tt

-- limits, tests and prices
unfoldable computing_prices : Unit {0}
unfolding also all every ceiling amount cost_of both join joined dearest_from dearest least_from
computing_prices = tt

-- questions 1 to 4, 10 and 5
unfoldable computing_ranges : Unit {0}
unfolding question1 question2 question3 question4 count_is count_right question10 costs_in_range chosen_in_range cell_in_range question5
computing_ranges = tt

-- question 6, as it is and as it was
unfoldable computing_order : Unit {0}
unfolding apart ascending successors_in_order question6 instead strict_refusal strictly_accepted
computing_order = tt

-- what was asked when every junction had to have a check, and when every junction was plain
unfoldable computing_then : Unit {0}
unfolding joined_values has_check checked_refusal checked_accepted is_plain plain_refusal
computing_then = tt

-- questions 7 to 9, and refusals
unfoldable computing_marks : Unit {0}
unfolding value_under question7 all_solved passed_by mark_earned question8 question9 first_no sheet_refusal_under refusal_under
    accepted_under
computing_marks = tt

-- all questions
unfoldable computing_asked : Unit {0}
unfolding computing_ranges computing_order computing_then computing_marks
computing_asked = tt

-- visits and passes
unfoldable computing_work : Unit {0}
unfolding on_test on_visit update if_dear_by visit_all_by try_one_by try_all_by finish visit_open_by visit_by on_pass passes_by work_by
computing_work = tt

-- the answer of a call, and what it leaves
unfoldable computing_calls : Unit {0}
unfolding outcome_at outcome_of on_refusal answer_under report bytes_under index_table refused_table checked_table table_under
computing_calls = tt

unfoldable pub computing : Unit {0}
unfolding computing_bytes computing_good computing_read computing_prices computing_asked computing_work computing_calls
computing = tt
