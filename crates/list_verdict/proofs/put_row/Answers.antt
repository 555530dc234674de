-- One thing after another. Assumes nothing.
use Rattle.text_out.proofs.Outs.{put_then}
use Rattle.list_verdict.specs.Inner.Row.{row_text}
use Rattle.list_verdict.proofs.put_row.Goals as goal

pub returns-in-Function : goal.returns-in-Function
unfolding row_text
returns-in-Function c =
    rw c.in-Function.is
    (put_then _ _ _ _ c.put_text-in-Function.ensures
    (put_then _ _ _ _ c.put_arguments.ensures
    (put_then _ _ _ _ c.put_text-in-Function-2.ensures c.put_sort_name-in-Function.ensures)))

pub returns-in-TypeVar : goal.returns-in-TypeVar
unfolding row_text
returns-in-TypeVar c = rw c.in-TypeVar.is (put_then _ _ _ _ c.put_text-in-TypeVar.ensures c.put_number-in-TypeVar.ensures)
