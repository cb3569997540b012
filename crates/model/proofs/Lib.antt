pub mod TestLaws
pub mod QuestionLaws
pub mod Computing
pub mod RowsHold
pub mod CallReport
