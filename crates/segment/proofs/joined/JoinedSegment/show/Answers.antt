use Rattle.segment.proofs.Says.{both_said, both_shown}
use Rattle.segment.proofs.joined.JoinedSegment.show.Goals as goal

pub returns : goal.returns
returns g c =
    let b = c.args.burst.now in
    let xs = g.A.Segment.machines c.args.self.now.left in
    let ys = g.B.Segment.machines c.args.self.now.right in
    let l = c.show-left.ensures in
    let r = c.show-right.ensures in
    record { said = both_said b xs ys l.said r.said c.and.ensures; machines = both_shown b xs ys l.machines r.machines }
