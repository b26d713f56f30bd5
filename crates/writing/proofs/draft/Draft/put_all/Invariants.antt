use Rattle.std.proofs.Common.{◌≡◌, ◌+◌, ◌*◌, ◌++◌, length, take}
use Rattle.std.specs.List.{flat_map}
use Rattle.writing.proofs.draft.Draft.put_all.Given as goal

abbrev pub invariant-loop-field : goal.invariant-loop-field
invariant-loop-field g l = record {
  written : l.self ≡ l.initial.self ++ flat_map g.T.Field.bytes (take l.field-index l.fields);
  len : length l.self ≡ length l.initial.self + g.T.Field.size * l.field-index;
}
