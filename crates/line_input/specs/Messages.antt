-- What is said of what ends a program that reads an input and writes an output, before the input ends.
use Rattle.std.specs.Prelude.{List, ℕ, codes}
use Rattle.line_input.specs.declared.Failed.{Failed}
use Rattle.line_input.specs.declared.Failed.TheVariants.{Input, Output, Endless}

unfoldable pub failed_text : Failed → List ℕ
failed_text Input = codes "the input cannot be read"
failed_text Output = codes "the output cannot be written"
failed_text Endless = codes "the input does not end"
