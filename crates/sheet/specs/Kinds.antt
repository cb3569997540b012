-- The kind of a sheet, as the code has it and as the definitions have it.
use Rattle.model.specs.Problem.{Kind as KindOfProblem, worst, whole}
use Rattle.sheet.specs.declared.fields.Kind.{Kind}
use Rattle.sheet.specs.declared.fields.Kind.TheVariants.{Worst, Whole}

abbrev pub kind_is : Kind → KindOfProblem
kind_is Worst = worst
kind_is Whole = whole
