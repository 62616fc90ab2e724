-- When a channel that is up is settled.
use Rattle.std.proofs.Common.{◌≡◌, ◌↔◌, ℕ, Bool, true, List, [], ◌∷◌, Option, Some, refl, sym, ◌∙◌, ap, length, IsTrue}
use Rattle.std.specs.Map.{keys_of}
use Rattle.bits_ip.specs.Prefix.{Net}
use Rattle.bits_ip.specs.declared.address.Family.{Family}
use Rattle.attrs.specs.declared.judge.Verdict.{Verdict}
use Rattle.attrs.specs.declared.route.Change.{Change}
use Rattle.attrs.specs.declared.route.Route.{Route}
use Rattle.export_core.specs.declared.log.Key.{Key}
use Rattle.export_core.specs.declared.marks.Mark.{Mark}
use Rattle.export_core.specs.Calls.{IsAtRest}
use Rattle.core_machine.specs.Channels as machine
use Rattle.core_machine.specs.Channels.{is_open}
use Rattle.core_machine.specs.Marks.{marked_keys}
use Rattle.core_machine.specs.Rounds.{IsSettled}
use Rattle.core_machine.specs.Rules.{Rules}
use Rattle.run_tables.specs.Channels.{IsChannel}
use Rattle.run_tables.specs.declared.channel.Channel.{Channel}
use Rattle.run_tables.proofs.Kept.{open_of}
use Rattle.run_tables.proofs.Steps.{log_open, marks_end}

none_in : (marks : List (Key × Mark)) → keys_of marks ≡ [] → marks ≡ []
none_in [] e = refl
none_in (m ∷ marks) e = absurd (let bad : m.0 ∷ keys_of marks ≡ [] = e in cc)

module _ {J : Type 0} (verdict : J → Net → Route → Verdict) (rules : Rules) (c : ℕ) (family : Option Family) (h : List Change) (held : Channel J) (ch : machine.Channel) (is : IsChannel verdict rules c family h held ch) where
  pub up_settled : (p head : ℕ) (result : Bool) → held.cursor ≡ Some p → head ≡ length h → IsTrue result ↔ IsAtRest held.exporter head
      → IsTrue result ↔ (is_open ch ≡ true → IsSettled h ch)
  up_settled p head result some at rests =
      let x = is.exporter in
      let same = x.matches.like.resembles in
      let up = open_of ch p (sym is.cursor ∙ some) in (
        λ rest _. let r = rests.0 rest in record {
          position = sym same.position ∙ r.position ∙ at;
          marks = marks_end verdict rules c h family held.exporter ch x r.unmarked;
        },
        λ settled. let s = settled up in rests.1 (record {
          up = log_open verdict rules c h held.exporter ch same.log ∙ up;
          position = same.position ∙ s.position ∙ sym at;
          fed = x.matches.like.feed;
          unmarked = none_in held.exporter.marks (same.order ∙ ap marked_keys s.marks);
          stays = x.matches.rest;
        }),
      )
