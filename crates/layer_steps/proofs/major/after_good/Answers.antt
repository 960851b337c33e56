-- `layer_steps::major::after_good` meets its contract: the number is the next of the run, or 0, or neither. Assumes nothing.
use mathlib.Core.Path.{refl}
use Rattle.layer_steps.proofs.Closed.{continued, completed, started, alone, counted-as}
use Rattle.layer_steps.proofs.major.after_good.Goals as goal

pub returns-then-n-lt-LAST_NUMBER : goal.returns-then-n-lt-LAST_NUMBER
returns-then-n-lt-LAST_NUMBER c = counted-as (continued _ _ c.if-n-r.true c.if-n-lt-LAST_NUMBER.true) refl refl

pub returns-then-n-r : goal.returns-then-n-r
returns-then-n-r c = counted-as (completed _ _ c.if-n-r.true c.if-n-lt-LAST_NUMBER.false) refl refl

pub returns-then-n-eq0 : goal.returns-then-n-eq0
returns-then-n-eq0 c = counted-as (started _ _ c.if-n-r.false c.if-n-eq0.true) refl refl

pub returns : goal.returns
returns c = counted-as (alone _ _ c.if-n-r.false c.if-n-eq0.false) refl refl
