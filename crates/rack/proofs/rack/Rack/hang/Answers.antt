use Rattle.std.proofs.Common.{rules}
use Rattle.std.proofs.lemmas.List.{map-append, length-map}
use Rattle.rack.proofs.rack.Rack.hang.Goals as goal

pub returns-then-len-ge254 : goal.returns-then-len-ge254
returns-then-len-ge254 c = search (rules, length-map)

pub returns : goal.returns
returns c = search (rules, length-map, map-append)

pub returns-in_err-push : goal.returns-in_err-push
returns-in_err-push c = search (rules, length-map)
