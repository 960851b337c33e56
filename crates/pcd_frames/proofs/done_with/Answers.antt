-- `pcd_frames::done_with` meets its contract, event by event. Assumes nothing.
use mathlib.Core.Path.{refl, ap}
use Rattle.reel_state.specs.Reading.{is_complete}
use Rattle.pcd_frames.proofs.Laws.{settled, shifted, due, wrote}
use Rattle.pcd_frames.proofs.done_with.Goals as goal

pub returns-in-Onward : goal.returns-in-Onward
returns-in-Onward g c = settled _ _ _ c.requires _ (ap is_complete c.in-Onward.is) (record { reel_is = refl; written_is = refl })

pub returns-in-Filled : goal.returns-in-Filled
returns-in-Filled g c =
    settled _ _ _ c.requires _ (ap is_complete c.in-Filled.is) c.told.ensures

pub write_frame-requires : goal.write_frame-requires
write_frame-requires g c = due _ _ _ c.requires c.in-Complete.is

pub returns-in-Complete : goal.returns-in-Complete
returns-in-Complete g c =
    let written = c.write_frame.ensures in
    wrote _ _ _ c.requires _ written.0 written.1

pub returns-in-Cut : goal.returns-in-Cut
returns-in-Cut g c =
    shifted _ _ _ c.requires _ (ap is_complete c.in-Cut.is) c.change_shift.ensures

pub returns-in-Ended : goal.returns-in-Ended
returns-in-Ended g c =
    settled _ _ _ c.requires _ (ap is_complete c.in-Ended.is) c.ended.ensures

pub returns-in-Unreadable : goal.returns-in-Unreadable
returns-in-Unreadable g c =
    settled _ _ _ c.requires _ (ap is_complete c.in-Unreadable.is) c.undone.ensures

pub returns-in-Refused : goal.returns-in-Refused
returns-in-Refused g c = settled _ _ _ c.requires _ (ap is_complete c.in-Refused.is) c.refused.ensures
