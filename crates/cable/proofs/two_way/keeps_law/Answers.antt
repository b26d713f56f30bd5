use Rattle.cable.specs.declared.Way.{Way}
use Rattle.cable.specs.declared.Way.TheVariants.{Down, Up}
use Rattle.cable.specs.Held.{put_by}
use Rattle.cable.specs.TwoWay.{pools}
use Rattle.cable.specs.Rules.{Bursts, gives_burst, lawful}
use Rattle.cable.proofs.two_way.keeps_law.Goals as goal

pub returns : goal.returns
returns g c w m t e = lawful g.S.Store.rule g.met.S.Store.adds m w (pools g.S.Store.held c.args.line.now) (pools g.S.Store.held t) (gives_burst (put_by g.S.Store.rule) m w _ _ (all w) e) e
  where
    all : (v : Way) → Bursts (pools g.S.Store.held c.args.line.now v)
    all Down = c.holds_bursts.ensures
    all Up = c.holds_bursts-2.ensures
