-- `text::put_local_head` meets its contract: its five parts one behind the other. Assumes nothing.
use mathlib.Core.List.{append_assoc}
use Rattle.text.proofs.Runs.{appended_as, appended_then}
use Rattle.text.proofs.put_local_head.Goals as goal

pub returns : goal.returns
returns c =
    let day = appended_as c.put_name.ensures c.day_name.ensures in
    let month = appended_as c.put_name-2.ensures c.month_name.ensures in
    appended_as (appended_then (appended_then (appended_then (appended_then day c.put.ensures) month) c.put_two.ensures) c.put-2.ensures) (simp append_assoc)
