-- Words, and what they leave open once their front is read.
use Rattle.std.proofs.Common.{◌≡◌, ◌∙◌, sym, ap, refl, subst, ℕ, ◌<◌, ◌^◌, ◌+◌, ◌==◌, Bool, true, false, cond, List, [], ◌∷◌, Option, Some, None, Result, Ok, Err}
use Rattle.std.specs.Prelude.{codes, is_none, is_some, not, ◌&&◌, unwrap_or}
use Rattle.bits_ip.specs.Prefix.{Net}
use Rattle.bits_ip.specs.Text.{v4_text}
use Rattle.bits_ip.specs.Address.{family_of}
use Rattle.import_core.specs.declared.operation.Given.{Given}
use Rattle.import_core.specs.declared.operation.Op.{Op}
use Rattle.import_core.specs.declared.operation.Op.TheVariants as ops
use Rattle.script_lines.specs.declared.named.Named.{Named}
use Rattle.script_lines.specs.declared.faults.ScriptKind.{ScriptKind}
use Rattle.script_lines.specs.declared.faults.ScriptKind.TheVariants as why
use Rattle.script_lines.specs.declared.refusal.LineFault.{LineFault}
use Rattle.script_lines.specs.declared.refusal.LineFault.TheVariants as line_faults
use Rattle.script_lines.specs.declared.commands.Act.{Act}
use Rattle.script_lines.specs.declared.commands.Act.TheVariants as acts
use Rattle.script_lines.specs.declared.commands.Verb.{Verb}
use Rattle.script_lines.specs.declared.commands.Verb.TheVariants as verbs
use Rattle.script_lines.specs.declared.commands.Reload.{Reload}
use Rattle.script_lines.specs.declared.commands.Reload.TheVariants as reloads
use Rattle.script_lines.specs.Grammar.{Command, Open, Close, Add, Del, Disable, Enable, ReloadIn, ReloadOut, ShowRoute}
use Rattle.script_lines.specs.Grammar.{Says, first_word, IsBehind, IsCommand, IsDel, AreName}
use Rattle.announcements.specs.Grammar.{IsAdd}
use Rattle.script_lines.specs.Grammar as grammar
use Rattle.script_lines.specs.Kinds.{session_of, protocol_of, is_of_family, asks_unknown, asks_other_family}
use Rattle.announcements.specs.Limits.{given_fits}
use Rattle.queries.specs.Question.{Asked, IsQuestion}
use Rattle.script_lines.specs.Inside.{IfRefused, IsUnfit, Judges, verb_text, act_of, first_kind, IsActed, IsNoAct, Acts, IsSessionLine, IsNamedLine, IsReload, reload_op, are_of_family}
use Rattle.announcements.specs.Reading.{ReadsAdd}
use Rattle.announcements.specs.declared.add.Announcement.{Announcement}
use Rattle.bits_ip.specs.declared.address.Addr.{Addr}
use Rattle.announcements.proofs.Words.{heads_same, words_behind}
use Rattle.announcements.proofs.Kept.{none_kept, some_kept}

-- the first two bytes tell the first words of commands apart
mark : List ℕ → ℕ
mark [] = 0
mark (a ∷ []) = a
mark (a ∷ b ∷ more) = a + b

marked : ℕ → Verb
marked n = cond (n == 223) verbs.Open (cond (n == 207) verbs.Close (cond (n == 197) verbs.Add (cond (n == 201) verbs.Del
    (cond (n == 205) verbs.Disable (cond (n == 211) verbs.Enable (cond (n == 215) verbs.Reload verbs.Show))))))

marked_verb : (v : Verb) → marked (mark (verb_text v)) ≡ v
unfolding mark marked
marked_verb verbs.Open = refl
marked_verb verbs.Close = refl
marked_verb verbs.Add = refl
marked_verb verbs.Del = refl
marked_verb verbs.Disable = refl
marked_verb verbs.Enable = refl
marked_verb verbs.Reload = refl
marked_verb verbs.Show = refl

pub verbs_same : (v w : Verb) → verb_text v ≡ verb_text w → v ≡ w
verbs_same v w same = sym (marked_verb v) ∙ ap (λ (l : List ℕ). marked (mark l)) same ∙ marked_verb w

-- the word that a command begins with
abbrev pub verb_for : Command → Verb
verb_for (Open id) = verbs.Open
verb_for Close = verbs.Close
verb_for (Add net given) = verbs.Add
verb_for (Del net) = verbs.Del
verb_for (Disable name) = verbs.Disable
verb_for (Enable name) = verbs.Enable
verb_for (grammar.Reload name) = verbs.Reload
verb_for (ReloadIn name) = verbs.Reload
verb_for (ReloadOut name) = verbs.Reload
verb_for (ShowRoute asked) = verbs.Show

pub text_for : (c : Command) → first_word c ≡ verb_text (verb_for c)
text_for (Open id) = refl
text_for Close = refl
text_for (Add net given) = refl
text_for (Del net) = refl
text_for (Disable name) = refl
text_for (Enable name) = refl
text_for (grammar.Reload name) = refl
text_for (ReloadIn name) = refl
text_for (ReloadOut name) = refl
text_for (ShowRoute asked) = refl

module _ (bytes : List ℕ) where
  -- a command that begins with this word has it as its own
  pub at_verb : (v : Verb) (rest : List (List ℕ)) (c : Command) → IsCommand bytes (verb_text v ∷ rest) c → (verb_for c ≡ v) × IsBehind bytes c rest
  at_verb v rest c is = (
    sym (verbs_same v (verb_for c) (heads_same (verb_text v) (first_word c) rest is.rest is.whole ∙ text_for c)),
    subst (IsBehind bytes c) (sym (words_behind (verb_text v) (first_word c) rest is.rest is.whole)) is.rest_is,
  )

  pub command_made : (c : Command) (rest : List (List ℕ)) → IsBehind bytes c rest → IsCommand bytes (first_word c ∷ rest) c
  command_made c rest is = record { rest = rest; whole = refl; rest_is = is }

  -- a word with which no command begins
  pub no_verb : (words rest : List (List ℕ)) (word : List ℕ) → words ≡ word ∷ rest → ((verb : Verb) → word ≡ verb_text verb → ⊥) → (c : Command) → IsCommand bytes words c → ⊥
  no_verb words rest word cut none c is = none (verb_for c) (heads_same word (first_word c) rest is.rest (sym cut ∙ is.whole) ∙ text_for c)

  pub no_command : (words : List (List ℕ)) → words ≡ [] → (c : Command) → IsCommand bytes words c → ⊥
  no_command words none c is =
      let same : [] ≡ first_word c ∷ is.rest = sym none ∙ is.whole in
      cc

  -- what can't stand behind a command's first word
  no_open_behind : (rest : List (List ℕ)) → ((id : ℕ) → rest ≡ v4_text id ∷ [] → id < 2 ^ 32 → ⊥) → (c : Command) → verb_for c ≡ verbs.Open → IsBehind bytes c rest → ⊥
  no_open_behind rest none (Open id) same is = none id is.0 is.1
  no_open_behind rest none _ same is = cc

  no_close_behind : (rest : List (List ℕ)) → (rest ≡ [] → ⊥) → (c : Command) → verb_for c ≡ verbs.Close → IsBehind bytes c rest → ⊥
  no_close_behind rest none Close same is = none is
  no_close_behind rest none _ same is = cc

  no_add_behind : (rest : List (List ℕ)) → ((net : Net) (given : Given) → IsAdd rest net given → ⊥) → (c : Command) → verb_for c ≡ verbs.Add → IsBehind bytes c rest → ⊥
  no_add_behind rest none (Add net given) same is = none net given is
  no_add_behind rest none _ same is = cc

  no_del_behind : (rest : List (List ℕ)) → ((net : Net) → IsDel rest net → ⊥) → (c : Command) → verb_for c ≡ verbs.Del → IsBehind bytes c rest → ⊥
  no_del_behind rest none (Del net) same is = none net is
  no_del_behind rest none _ same is = cc

  no_disable_behind : (rest : List (List ℕ)) → ((name : List ℕ) → AreName rest name → ⊥) → (c : Command) → verb_for c ≡ verbs.Disable → IsBehind bytes c rest → ⊥
  no_disable_behind rest none (Disable name) same is = none name is
  no_disable_behind rest none _ same is = cc

  no_enable_behind : (rest : List (List ℕ)) → ((name : List ℕ) → AreName rest name → ⊥) → (c : Command) → verb_for c ≡ verbs.Enable → IsBehind bytes c rest → ⊥
  no_enable_behind rest none (Enable name) same is = none name is
  no_enable_behind rest none _ same is = cc

  no_reload_behind : (rest : List (List ℕ)) → ((reload : Reload) (name : List ℕ) → IsReload rest reload name → ⊥) → (c : Command) → verb_for c ≡ verbs.Reload → IsBehind bytes c rest → ⊥
  no_reload_behind rest none (grammar.Reload name) same is = none reloads.Both name is
  no_reload_behind rest none (ReloadIn name) same is = none reloads.In name is
  no_reload_behind rest none (ReloadOut name) same is = none reloads.Out name is
  no_reload_behind rest none _ same is = cc

  no_show_behind : (rest : List (List ℕ)) → ((more : List (List ℕ)) (asked : Asked) → rest ≡ codes "route" ∷ more → IsQuestion bytes asked → ⊥) → (c : Command) → verb_for c ≡ verbs.Show
      → IsBehind bytes c rest → ⊥
  no_show_behind rest none (ShowRoute asked) same is = none is.0 asked is.1 is.2
  no_show_behind rest none _ same is = cc

  none_behind : (v : Verb) (rest : List (List ℕ)) → ((c : Command) → verb_for c ≡ v → IsBehind bytes c rest → ⊥) → (c : Command) → IsCommand bytes (verb_text v ∷ rest) c → ⊥
  none_behind v rest none c is = let at = at_verb v rest c is in none c at.0 at.1

  pub no_open : (rest : List (List ℕ)) → ((id : ℕ) → rest ≡ v4_text id ∷ [] → id < 2 ^ 32 → ⊥) → (c : Command) → IsCommand bytes (codes "open" ∷ rest) c → ⊥
  no_open rest none = none_behind verbs.Open rest (no_open_behind rest none)

  pub no_close : (rest : List (List ℕ)) → (rest ≡ [] → ⊥) → (c : Command) → IsCommand bytes (codes "close" ∷ rest) c → ⊥
  no_close rest none = none_behind verbs.Close rest (no_close_behind rest none)

  pub no_add : (rest : List (List ℕ)) → ((net : Net) (given : Given) → IsAdd rest net given → ⊥) → (c : Command) → IsCommand bytes (codes "add" ∷ rest) c → ⊥
  no_add rest none = none_behind verbs.Add rest (no_add_behind rest none)

  pub no_del : (rest : List (List ℕ)) → ((net : Net) → IsDel rest net → ⊥) → (c : Command) → IsCommand bytes (codes "del" ∷ rest) c → ⊥
  no_del rest none = none_behind verbs.Del rest (no_del_behind rest none)

  pub no_disable : (rest : List (List ℕ)) → ((name : List ℕ) → AreName rest name → ⊥) → (c : Command) → IsCommand bytes (codes "disable" ∷ rest) c → ⊥
  no_disable rest none = none_behind verbs.Disable rest (no_disable_behind rest none)

  pub no_enable : (rest : List (List ℕ)) → ((name : List ℕ) → AreName rest name → ⊥) → (c : Command) → IsCommand bytes (codes "enable" ∷ rest) c → ⊥
  no_enable rest none = none_behind verbs.Enable rest (no_enable_behind rest none)

  pub no_reload : (rest : List (List ℕ)) → ((reload : Reload) (name : List ℕ) → IsReload rest reload name → ⊥) → (c : Command) → IsCommand bytes (codes "reload" ∷ rest) c → ⊥
  no_reload rest none = none_behind verbs.Reload rest (no_reload_behind rest none)

  pub no_show : (rest : List (List ℕ)) → ((more : List (List ℕ)) (asked : Asked) → rest ≡ codes "route" ∷ more → IsQuestion bytes asked → ⊥) → (c : Command) → IsCommand bytes (codes "show" ∷ rest) c → ⊥
  no_show rest none = none_behind verbs.Show rest (no_show_behind rest none)

  -- the kinds of an operation of the actor's session, by whether there is one
  pub session_acts : (named : Named) (actor : List ℕ) (words : List (List ℕ)) (c : Command) (op : Op) (r : Result Act LineFault) → IsCommand bytes words c
      → first_kind named (Says actor c) ≡ cond (is_none (session_of named actor)) (Some why.UnknownActor) None → act_of named actor c ≡ acts.Apply (unwrap_or (session_of named actor) 0) op
      → IsSessionLine named actor op r → Acts named actor bytes words r
  session_acts named actor words c op (Ok act) command kind does is =
      record { command = c; command_is = command; fine = kind ∙ ap (λ (b : Bool). cond b (Some why.UnknownActor) None) is.0; act_is = is.1 ∙ sym does }
  session_acts named actor words c op (Err fault) command kind does is =
      subst (IfRefused (IsNoAct named actor bytes words)) (sym is.1) (c, command, kind ∙ ap (λ (b : Bool). cond b (Some why.UnknownActor) None) is.0)

  -- the kinds of an operation on the protocol of this name
  pub named_acts : (named : Named) (actor name : List ℕ) (words : List (List ℕ)) (c : Command) (op : Op) (r : Result Act LineFault) → IsCommand bytes words c
      → first_kind named (Says actor c) ≡ cond (is_none (protocol_of named name)) (Some why.UnknownName) None → act_of named actor c ≡ acts.Apply (unwrap_or (protocol_of named name) 0) op
      → IsNamedLine named name op r → Acts named actor bytes words r
  named_acts named actor name words c op (Ok act) command kind does is =
      record { command = c; command_is = command; fine = kind ∙ ap (λ (b : Bool). cond b (Some why.UnknownName) None) is.0; act_is = is.1 ∙ sym does }
  named_acts named actor name words c op (Err fault) command kind does is =
      subst (IfRefused (IsNoAct named actor bytes words)) (sym is.1) (c, command, kind ∙ ap (λ (b : Bool). cond b (Some why.UnknownName) None) is.0)

  pub open_acts : (named : Named) (actor : List ℕ) (rest : List (List ℕ)) (id : ℕ) (r : Result Act LineFault) → (rest ≡ v4_text id ∷ []) × (id < 2 ^ 32) → IsSessionLine named actor (ops.SessionUp id) r
      → Acts named actor bytes (codes "open" ∷ rest) r
  open_acts named actor rest id r is line = session_acts named actor (codes "open" ∷ rest) (Open id) (ops.SessionUp id) r (command_made (Open id) rest is) refl refl line

  pub close_acts : (named : Named) (actor : List ℕ) (rest : List (List ℕ)) (r : Result Act LineFault) → rest ≡ [] → IsSessionLine named actor ops.SessionDown r → Acts named actor bytes (codes "close" ∷ rest) r
  close_acts named actor rest r is line = session_acts named actor (codes "close" ∷ rest) Close ops.SessionDown r (command_made Close rest is) refl refl line

  pub disable_acts : (named : Named) (actor name : List ℕ) (rest : List (List ℕ)) (r : Result Act LineFault) → AreName rest name → IsNamedLine named name ops.Disable r → Acts named actor bytes (codes "disable" ∷ rest) r
  disable_acts named actor name rest r is line = named_acts named actor name (codes "disable" ∷ rest) (Disable name) ops.Disable r (command_made (Disable name) rest is) refl refl line

  pub enable_acts : (named : Named) (actor name : List ℕ) (rest : List (List ℕ)) (r : Result Act LineFault) → AreName rest name → IsNamedLine named name ops.Enable r → Acts named actor bytes (codes "enable" ∷ rest) r
  enable_acts named actor name rest r is line = named_acts named actor name (codes "enable" ∷ rest) (Enable name) ops.Enable r (command_made (Enable name) rest is) refl refl line

  pub reload_acts : (named : Named) (actor name : List ℕ) (rest : List (List ℕ)) (reload : Reload) (r : Result Act LineFault) → IsReload rest reload name → IsNamedLine named name (reload_op reload) r
      → Acts named actor bytes (codes "reload" ∷ rest) r
  reload_acts named actor name rest reloads.Both r is line =
      named_acts named actor name (codes "reload" ∷ rest) (grammar.Reload name) ops.Reload r (command_made (grammar.Reload name) rest is) refl refl line
  reload_acts named actor name rest reloads.In r is line =
      named_acts named actor name (codes "reload" ∷ rest) (ReloadIn name) ops.ReloadIn r (command_made (ReloadIn name) rest is) refl refl line
  reload_acts named actor name rest reloads.Out r is line =
      named_acts named actor name (codes "reload" ∷ rest) (ReloadOut name) ops.ReloadOut r (command_made (ReloadOut name) rest is) refl refl line

  -- the kinds of `show route`, by whether a name is unknown and whether families differ
  show_kinds : Bool → Bool → Option ScriptKind
  show_kinds unknown other = cond unknown (Some why.UnknownName) (cond other (Some why.Nettype) None)

  show_kind : (named : Named) (actor : List ℕ) (asked : Asked) → first_kind named (Says actor (ShowRoute asked)) ≡ show_kinds (asks_unknown named asked) (asks_other_family named asked)
  unfolding show_kinds
  show_kind named actor asked = refl

  show_kind_is : (named : Named) (actor : List ℕ) (asked : Asked) (unknown other : Bool) → asks_unknown named asked ≡ unknown → asks_other_family named asked ≡ other
      → first_kind named (Says actor (ShowRoute asked)) ≡ show_kinds unknown other
  show_kind_is named actor asked unknown other one second =
      show_kind named actor asked ∙ ap (λ (b : Bool). show_kinds b (asks_other_family named asked)) one ∙ ap (λ (b : Bool). show_kinds unknown b) second

  show_command : (rest more : List (List ℕ)) (asked : Asked) → rest ≡ codes "route" ∷ more → IsQuestion bytes asked → IsCommand bytes (codes "show" ∷ rest) (ShowRoute asked)
  show_command rest more asked cut is = command_made (ShowRoute asked) rest (more, cut, is)

  show_unfit : (named : Named) (actor : List ℕ) (rest more : List (List ℕ)) (asked : Asked) (kind : ScriptKind) → rest ≡ codes "route" ∷ more → IsQuestion bytes asked → IsUnfit named asked kind
      → IsNoAct named actor bytes (codes "show" ∷ rest) kind
  unfolding show_kinds
  show_unfit named actor rest more asked why.UnknownName cut is unfit =
      (ShowRoute asked, show_command rest more asked cut is, show_kind_is named actor asked true (asks_other_family named asked) unfit refl)
  show_unfit named actor rest more asked why.Nettype cut is unfit = (ShowRoute asked, show_command rest more asked cut is, show_kind_is named actor asked false true unfit.0 unfit.1)
  show_unfit named actor rest more asked why.Syntax cut is unfit = absurd unfit
  show_unfit named actor rest more asked why.UnknownActor cut is unfit = absurd unfit
  show_unfit named actor rest more asked why.AttrLimit cut is unfit = absurd unfit
  show_unfit named actor rest more asked why.ScheduleInRun cut is unfit = absurd unfit
  show_unfit named actor rest more asked why.Actors cut is unfit = absurd unfit
  show_unfit named actor rest more asked why.Expression cut is unfit = absurd unfit

  show_refused : (named : Named) (actor : List ℕ) (rest more : List (List ℕ)) (asked : Asked) (fault : LineFault) → rest ≡ codes "route" ∷ more → IsQuestion bytes asked → IfRefused (IsUnfit named asked) fault
      → IfRefused (IsNoAct named actor bytes (codes "show" ∷ rest)) fault
  show_refused named actor rest more asked (line_faults.Refused kind) cut is unfit = show_unfit named actor rest more asked kind cut is unfit
  show_refused named actor rest more asked line_faults.Memory cut is unfit = tt

  pub show_acts : (named : Named) (actor : List ℕ) (rest more : List (List ℕ)) (asked : Asked) (r : Result Act LineFault) → rest ≡ codes "route" ∷ more → IsQuestion bytes asked → Judges named asked r
      → Acts named actor bytes (codes "show" ∷ rest) r
  unfolding show_kinds
  show_acts named actor rest more asked (Ok act) cut is fine =
      record { command = ShowRoute asked; command_is = show_command rest more asked cut is; fine = show_kind_is named actor asked false false fine.0 fine.1; act_is = fine.2 }
  show_acts named actor rest more asked (Err fault) cut is unfit = show_refused named actor rest more asked fault cut is unfit

  -- the kinds of `del` and `add`, by the session's number, by families, and by whether the numbers fit
  del_kinds : Option ℕ → Bool → Option ScriptKind
  del_kinds session family = cond (is_none session) (Some why.UnknownActor) (cond (is_some session && not family) (Some why.Nettype) None)

  del_kind : (named : Named) (actor : List ℕ) (net : Net) → first_kind named (Says actor (Del net)) ≡ del_kinds (session_of named actor) (is_of_family named actor (family_of net.addr))
  unfolding del_kinds
  del_kind named actor net = refl

  del_kind_is : (named : Named) (actor : List ℕ) (net : Net) (session : Option ℕ) (family : Bool) → session ≡ session_of named actor → family ≡ is_of_family named actor (family_of net.addr)
      → first_kind named (Says actor (Del net)) ≡ del_kinds session family
  del_kind_is named actor net session family one other =
      del_kind named actor net ∙ ap (λ (s : Option ℕ). del_kinds s (is_of_family named actor (family_of net.addr))) (sym one) ∙ ap (λ (b : Bool). del_kinds session b) (sym other)

  pub del_acts : (named : Named) (actor : List ℕ) (rest : List (List ℕ)) (net : Net) (protocol : ℕ) → IsDel rest net → Some protocol ≡ session_of named actor
      → true ≡ is_of_family named actor (family_of net.addr) → IsActed named actor bytes (codes "del" ∷ rest) (acts.Apply protocol (ops.Del net))
  unfolding del_kinds
  del_acts named actor rest net protocol is session family = record {
    command = Del net;
    command_is = command_made (Del net) rest is;
    fine = del_kind_is named actor net (Some protocol) true session family;
    act_is = ap (λ (s : Option ℕ). acts.Apply (unwrap_or s 0) (ops.Del net)) session;
  }

  pub del_no_session : (named : Named) (actor : List ℕ) (rest : List (List ℕ)) (net : Net) → IsDel rest net → None ≡ session_of named actor
      → IsNoAct named actor bytes (codes "del" ∷ rest) why.UnknownActor
  unfolding del_kinds
  del_no_session named actor rest net is session =
      (Del net, command_made (Del net) rest is, del_kind_is named actor net None (is_of_family named actor (family_of net.addr)) session refl)

  pub del_other_family : (named : Named) (actor : List ℕ) (rest : List (List ℕ)) (net : Net) (protocol : ℕ) → IsDel rest net → Some protocol ≡ session_of named actor
      → false ≡ is_of_family named actor (family_of net.addr) → IsNoAct named actor bytes (codes "del" ∷ rest) why.Nettype
  unfolding del_kinds
  del_other_family named actor rest net protocol is session family =
      (Del net, command_made (Del net) rest is, del_kind_is named actor net (Some protocol) false session family)

  add_kinds : Option ℕ → Bool → Bool → Option ScriptKind
  add_kinds session family fit =
      cond (is_none session) (Some why.UnknownActor) (cond (is_some session && not family) (Some why.Nettype) (cond (not fit) (Some why.AttrLimit) None))

  add_kind : (named : Named) (actor : List ℕ) (net : Net) (given : Given)
      → first_kind named (Says actor (Add net given)) ≡ add_kinds (session_of named actor) (are_of_family named actor net given.gw) (given_fits given)
  unfolding add_kinds
  add_kind named actor net given = refl

  -- with the gateway that was read
  add_kind_is : (named : Named) (actor : List ℕ) (net : Net) (gateway : Addr) (given : Given) (session : Option ℕ) (family fit : Bool) → gateway ≡ given.gw → session ≡ session_of named actor
      → family ≡ are_of_family named actor net gateway → given_fits given ≡ fit → first_kind named (Says actor (Add net given)) ≡ add_kinds session family fit
  add_kind_is named actor net gateway given session family fit same one other third =
      add_kind named actor net given ∙ ap (λ (s : Option ℕ). add_kinds s (are_of_family named actor net given.gw) (given_fits given)) (sym one)
      ∙ ap (λ (a : Addr). add_kinds session (are_of_family named actor net a) (given_fits given)) (sym same)
      ∙ ap (λ (b : Bool). add_kinds session b (given_fits given)) (sym other) ∙ ap (λ (b : Bool). add_kinds session family b) third

  pub add_acts : (named : Named) (actor : List ℕ) (rest : List (List ℕ)) (said : Announcement) (protocol : ℕ) (made : Given) → ReadsAdd rest said → Some protocol ≡ session_of named actor
      → true ≡ are_of_family named actor said.net said.gateway → Some made ≡ said.given → IsActed named actor bytes (codes "add" ∷ rest) (acts.Apply protocol (ops.Add said.net made))
  unfolding add_kinds
  add_acts named actor rest said protocol made is session family fine =
      let parts = some_kept given_fits is.given made (fine ∙ is.kept_is) in
      record {
        command = Add said.net is.given;
        command_is = command_made (Add said.net is.given) rest is.is;
        fine = add_kind_is named actor said.net said.gateway is.given (Some protocol) true true is.gateway_is session family parts.0;
        act_is = ap (λ (s : Option ℕ). acts.Apply (unwrap_or s 0) (ops.Add said.net made)) session
            ∙ ap (λ (g : Given). acts.Apply (unwrap_or (session_of named actor) 0) (ops.Add said.net g)) parts.1;
      }

  pub add_no_session : (named : Named) (actor : List ℕ) (rest : List (List ℕ)) (said : Announcement) → ReadsAdd rest said → None ≡ session_of named actor → IsNoAct named actor bytes (codes "add" ∷ rest) why.UnknownActor
  unfolding add_kinds
  add_no_session named actor rest said is session = (
    Add said.net is.given,
    command_made (Add said.net is.given) rest is.is,
    add_kind_is named actor said.net said.gateway is.given None (are_of_family named actor said.net said.gateway) (given_fits is.given) is.gateway_is session refl refl,
  )

  pub add_other_family : (named : Named) (actor : List ℕ) (rest : List (List ℕ)) (said : Announcement) (protocol : ℕ) → ReadsAdd rest said → Some protocol ≡ session_of named actor
      → false ≡ are_of_family named actor said.net said.gateway → IsNoAct named actor bytes (codes "add" ∷ rest) why.Nettype
  unfolding add_kinds
  add_other_family named actor rest said protocol is session family = (
    Add said.net is.given,
    command_made (Add said.net is.given) rest is.is,
    add_kind_is named actor said.net said.gateway is.given (Some protocol) false (given_fits is.given) is.gateway_is session family refl,
  )

  pub add_over_limit : (named : Named) (actor : List ℕ) (rest : List (List ℕ)) (said : Announcement) (protocol : ℕ) → ReadsAdd rest said → Some protocol ≡ session_of named actor
      → true ≡ are_of_family named actor said.net said.gateway → None ≡ said.given → IsNoAct named actor bytes (codes "add" ∷ rest) why.AttrLimit
  unfolding add_kinds
  add_over_limit named actor rest said protocol is session family over = (
    Add said.net is.given,
    command_made (Add said.net is.given) rest is.is,
    add_kind_is named actor said.net said.gateway is.given (Some protocol) true false is.gateway_is session family (none_kept given_fits is.given (over ∙ is.kept_is)),
  )
