-- The number of each question (S4), which is that of a refusal by it.
use Rattle.std.specs.Prelude.{ℕ, zero, suc}
use Rattle.model.specs.declared.refusal.Question.{Question}
use Rattle.model.specs.declared.refusal.Question.TheVariants.{Room, Size, Head, Fields, Count, Ranges, Findings, Circle, Values, Marks}
use Rattle.model.specs.declared.refusal.Question.TheVariants.{Budget}

-- a question's number
abbrev pub number_of : Question → ℕ
number_of Room = 1
number_of Size = 2
number_of Head = 3
number_of Fields = 4
number_of Count = 10
number_of Ranges = 5
number_of Findings = 6
number_of Circle = 11
number_of Values = 7
number_of Marks = 8
number_of Budget = 9

-- and the question of a number; of any other number the last
abbrev pub question_of : ℕ → Question
question_of zero = Room
question_of (suc zero) = Room
question_of (suc (suc zero)) = Size
question_of (suc (suc (suc zero))) = Head
question_of (suc (suc (suc (suc zero)))) = Fields
question_of (suc (suc (suc (suc (suc zero))))) = Ranges
question_of (suc (suc (suc (suc (suc (suc zero)))))) = Findings
question_of (suc (suc (suc (suc (suc (suc (suc zero))))))) = Values
question_of (suc (suc (suc (suc (suc (suc (suc (suc zero)))))))) = Marks
question_of (suc (suc (suc (suc (suc (suc (suc (suc (suc zero))))))))) = Budget
question_of (suc (suc (suc (suc (suc (suc (suc (suc (suc (suc zero)))))))))) = Count
question_of (suc (suc (suc (suc (suc (suc (suc (suc (suc (suc (suc n))))))))))) = Circle
