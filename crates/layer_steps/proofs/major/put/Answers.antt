-- `layer_steps::major::put` meets its contract: what was written to the part is pasted. Assumes nothing.
use Rattle.std.proofs.Common.{◌+◌, ◌-◌, arith, sym}
use Rattle.std.proofs.lemmas.Slice.{put_mid-paste}
use Rattle.layer_steps.proofs.major.put.Goals as goal

pub returns : goal.returns
returns c =
    let a = c.args in
    put_mid-paste a.at (a.at + 128 - a.at) a.area.now c.copy_from_slice.new.self a.frame.now 128 c.copy_from_slice.ensures.after (omega arith)
    (sym c.requires.1)
