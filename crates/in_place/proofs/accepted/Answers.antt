-- `in_place::accepted` meets its contract: the layers, taken out, led in or not, and put back, are those that the run leaves, with its payment booked.
-- Assumes nothing.
use mathlib.Core.Path.{◌≡◌, refl, sym, ap, subst, ◌∙◌}
use Prim.Native.Nat.{◌<◌}
use native.Mathlib.Omega.{arith}
use Rattle.labelling.proofs.CallLaws.{accepted-answer}
use Rattle.labelling.proofs.Ordered.{state_in_order_lem}
use Rattle.labelling.specs.declared.Tally.{Tally}
use Rattle.labelling.specs.Votes.{rule_vote}
use Rattle.labelling.specs.Machine.{State, state_of}
use Rattle.labelling.specs.Calls.{TakeCall, Progress, Answer, answer, answer_with}
use Rattle.order.proofs.Rooms.{state_room, duty_room}
use Rattle.plain_steps.specs.declared.layers.Layers.{Layers}
use Rattle.plain_steps.specs.Shapes.{state_with}
use Rattle.reader.specs.Shapes.{call_of, part_of}
use Rattle.reader_run.specs.Onward.{Begun, fed, ran_of}
use Rattle.reader.proofs.Answers.{part-fits}
use Rattle.tally_numbers.specs.Numbers.{numbers_of, Sized}
use Rattle.in_place.specs.Places.{call_in}
use Rattle.in_place.specs.Leading.{after_lead, begun_with}
use Rattle.in_place.proofs.Laws.{eight_booked}
use Rattle.in_place.proofs.LeadIn.{begun_tally, Begins, begins}
use borrow.Author.Rules.{rules}
use Rattle.in_place.proofs.accepted.Goals as goal
use Rattle.in_place.proofs.accepted.Goals.{After-begin-begun, After-layers_of-layers, After-run-r}

-- where the layers are taken out
module _ (made : After-layers_of-layers) where
  abbrev asked : TakeCall
  asked = call_in made.args.numbers.now made.args.frame.now made.args.piece.now made.args.area.now

pub begin-begun-requires : goal.begin-begun-requires
begin-begun-requires c =
    let t = (asked (goal.at.begin-begun-requires c).After-layers_of-layers).tally in
    let room = state_room (state_of t) (state_in_order_lem t c.requires.order) in
    rw c.layers_of-layers.ensures record {
      frame_len = (c.requires.frame-length, room.in_groups);
      placed_value = λ z. (c.requires.leads z).at_first;
    }

-- where the run begins
module _ (ready : After-begin-begun) where
  abbrev whole : TakeCall
  whole = call_in ready.args.numbers.now ready.args.frame.now ready.args.piece.now ready.args.area.now

  -- the call begins after the lead-in or not
  begun : Begins ready.args.led whole
  begun = begins ready.args.led _ _ _ _ ready.requires

  abbrev first : Tally
  first = begun_tally ready.args.led whole.tally

  state_is : state_with ready.begin-begun.result ready.begin-begun.new.frame ≡ state_of first
  state_is =
      let a = ready.args in
      ready.begin-begun.ensures ∙ ap (λ (l : Layers). begun_with a.led (state_with l a.frame.now)) ready.layers_of-layers.ensures

pub run-r-requires : goal.run-r-requires
run-r-requires c =
    let ready = (goal.at.run-r-requires c).After-begin-begun in
    let b = begun ready in (
      subst (λ (t : State). Begun c.args.piece.now 0 t) (sym (state_is ready))
          record {
            order = state_in_order_lem (first ready) b.order;
            fits = record { inside = omega arith; limit = omega (arith, b.fits) };
            frame-length = b.frame-length ∙ c.requires.frame-length;
          },
      c.requires.area_length,
    )

pub put_layers-requires : goal.put_layers-requires
put_layers-requires c = duty_room (asked (goal.at.put_layers-requires c).After-layers_of-layers).tally c.requires.order

-- where the run ends
module _ (ran : After-run-r) where
  abbrev call : TakeCall
  call = call_in ran.args.numbers.now ran.args.frame.now ran.args.piece.now ran.args.area.now

  abbrev part : TakeCall
  part = part_of ran.args.stop (after_lead ran.args.led call)

  abbrev told : Answer
  told = answer_with call.tally (ran_of ran.run-r.result ran.run-r.new.frame ran.run-r.new.area)

  same : (begun_at : Begins ran.args.led call)
      → state_with ran.begin-begun.result ran.begin-begun.new.frame ≡ state_of (begun_tally ran.args.led call.tally) → told ≡ answer part
  same b so =
      let a = ran.args in
      let f = begun_tally a.led call.tally in
      let d = part_of a.stop (call_of f call.piece call.area) in
      let fits = part-fits a.stop f call.piece call.area b.order ran.requires.area_length b.fits in
      let read : State → Progress = λ x.
      fed (rule_vote call.tally.rule) a.stop call.piece (record { at = 0; state = x; area = call.area }) in
      ap (λ (r : Progress). answer_with call.tally r) (ran.run-r.ensures ∙ ap read so)
      ∙ sym (accepted-answer d fits) ∙ ap (λ (x : TakeCall). answer (part_of a.stop x)) (sym b.call-is)

  sized : Sized told.tally
  sized =
      let g = ran.run-r.result.layers.groups in
      let first : g.first < 256 = search rules in
      let second : g.second < 256 = search rules in
      record { first_byte = first; second-byte = second; eight = eight_booked ran.args.numbers.now ran.run-r.result.complete }

pub returns : goal.returns
returns c =
    let ready = (goal.at.returns c).After-begin-begun in
    let ran = (goal.at.returns c).After-run-r in
    let so = same ran (begun ready) (state_is ready) in record {
      numbers_is = c.put_layers.ensures ∙ ap (λ (x : Answer). numbers_of x.tally) so;
      frame_is = ap (λ (x : Answer). x.tally.frame) so;
      area_is = ap (λ (x : Answer). x.area) so;
      taken_is = ap (λ (x : Answer). x.taken) so;
      complete_is = ap (λ (x : Answer). x.complete) so;
      sized = subst (λ (x : Answer). Sized x.tally) so (sized ran);
    }
