-- What a machine replies, read against the question, gives back what the machine held.
use Rattle.std.proofs.Common.{◌≡◌, ℕ, Bool, true, false, cond, List, Some, None, Ok, sym, refl, ap, ◌∙◌}
use Rattle.mlan.specs.Commands.{Said, get_totals, get_settings, get_type, get_functions, get_version, get_units, Reading, reads, faults, read_as}
use Rattle.mlan.specs.Frame.{code_of}
use Rattle.mlan.proofs.Codes.{said_code, read_code}
use Rattle.writing.specs.Answers.{answer_code, answer_data, answer_bytes}
use Rattle.writing.specs.declared.answer.Answer.{Answer}
use Rattle.blender.specs.Machines.{Model, answer_of, judged_answer, concerns, reply}
use Rattle.replies.specs.Replies.{Telling, understood}
use Rattle.replies.specs.Machines.{held, Showing, Kept, GivesBack}
use Rattle.replies.specs.declared.reply.Asked.{Asked}
use Rattle.replies.proofs.Keeping.{new_kept, batch_keeps, burst_keeps}
use Rattle.replies.proofs.Telling.{by_parts, understood_sealed, totals_told, rows_told, settings_told, functions_told, version_told, type_told, units_told}

-- a question to a machine
abbrev question : Model → ℕ → Asked
question m code = record { address = m.address; code = code }

-- an answer, judged by its code and data
abbrev told_of : Model → ℕ → Answer → Telling
told_of m code a = by_parts (question m code) (answer_code a) (answer_data a)

answer_told : (m : Model) → Showing m.kind → Kept m → (s : Said) → told_of m (said_code s) (answer_of m s) ≡ Ok (held m s)
answer_told m shows kept (get_totals true) = totals_told m shows kept true
answer_told m shows kept (get_totals false) = totals_told m shows kept false
answer_told m shows kept get_settings = settings_told m shows kept
answer_told m shows kept get_type = type_told m.kind m.unit
answer_told m shows kept get_functions = functions_told m shows kept
answer_told m shows kept get_version = version_told m.kind shows
answer_told m shows kept get_units = units_told m.settings.units
answer_told m shows kept s = refl

-- a reply is the machine's answer
answered : (m : Model) (b r : List ℕ) (x : Reading) → read_as m.kind b ≡ x → reply m b ≡ Some r → answer_bytes m.address (judged_answer m x) ≡ r
answered m b r x e = go (concerns m b)
  where
    go : (heard : Bool) → cond heard (Some (answer_bytes m.address (judged_answer m (read_as m.kind b)))) None ≡ Some r → answer_bytes m.address (judged_answer m x) ≡ r
    go true f = ap (λ y. answer_bytes m.address (judged_answer m y)) (sym e) ∙ (cc)
    go false f = cc

understood_answer : (m : Model) (b r : List ℕ) (x : Reading) → read_as m.kind b ≡ x → reply m b ≡ Some r
    → understood (question m (code_of b)) (Some r) ≡ told_of m (code_of b) (judged_answer m x)
understood_answer m b r x e f =
    let a : Answer = judged_answer m x in
    ap (λ t. understood (question m (code_of b)) (Some t)) (sym (answered m b r x e f)) ∙ understood_sealed (question m (code_of b)) (answer_code a) (answer_data a)

to_command : (m : Model) (b r : List ℕ) (s : Said) → Showing m.kind → Kept m → read_as m.kind b ≡ reads s → reply m b ≡ Some r
    → understood (question m (code_of b)) (Some r) ≡ Ok (held m s)
to_command m b r s shows kept e f =
    understood_answer m b r (reads s) e f ∙ ap (λ n. told_of m n (answer_of m s)) (sym (read_code m.kind b s e)) ∙ answer_told m shows kept s

pub law : GivesBack
law = record {
  to_command = to_command;
  rows_too = rows_told;
  to_other = λ m b r f e g. understood_answer m b r (faults f) e g;
  new_kept = new_kept;
  batch_keeps = batch_keeps;
  burst_keeps = burst_keeps;
  four_understood = record { version_printed = refl; rows_shown = λ p e. e; types_shown = refl };
  twelve_understood = record { version_printed = refl; rows_shown = λ p e. refl; types_shown = refl };
  feeder_understood = record { version_printed = refl; rows_shown = λ p e. refl; types_shown = refl };
}
