-- `shed_core::states::Member::place_with` meets its contract: lent the costs gathered from the stream, the unit sees what the stream says.
-- Assumes nothing.
use Rattle.shed_core.proofs.Lent.{accepts, place-lent}
use Rattle.shed_core.proofs.states.Member.place_with.Goals as goal

pub returns : goal.returns
returns c =
    let a = c.args in
    let m = a.self.now in
    place-lent m.stream.now (accepts m.stream.now m.accepted) m.own m.first m.last c.seat.result c.seat.ensures a.costs.now c.requires a.v c.place_tried.result c.place_tried.ensures
