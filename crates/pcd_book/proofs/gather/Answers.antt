-- `pcd_book::gather` ends, and hands on what is gathered. Assumes nothing.
use Rattle.pcd_book.proofs.Binding.{bound_front}
use Rattle.pcd_book.proofs.gather.Goals as goal

pub write-requires : goal.write-requires
write-requires g c =
    let gathered = c.gather-shelf in
    let span = c.in-Some.ensures.in_span_fact in
    (bound_front _ c.args.bodies.now gathered.new.bodies gathered.result span gathered.ensures gathered.auto.bodies, c.requires.1)
