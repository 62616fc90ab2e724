-- What the lines of a script ask for and name is there.
use Rattle.std.proofs.Common.{◌≡◌, ◌∙◌, ◌<◌, ℕ, List, length, map, ap, subst, sym}
use Rattle.std.proofs.lemmas.List.{length-map}
use Rattle.std.proofs.lemmas.List.Elements.{All-weaker}
use Rattle.std.specs.List.{All}
use Rattle.script_lines.specs.Script.{NamesWhatIs}
use Rattle.script_lines.specs.declared.named.Named.{Named}
use Rattle.script_lines.specs.declared.named.NamedProtocol.{NamedProtocol}
use Rattle.script_lines.specs.declared.script.Line.{Line}
use Rattle.script_lines.specs.declared.script.Line.TheVariants as lines
use Rattle.conf_system.specs.Policies.{Filter}
use Rattle.conf_system.specs.System.{System}
use Rattle.core_setup.specs.Setup.{Protocol, Setup}
use Rattle.show_route.specs.declared.query.Query.{Query}
use Rattle.sys_build.specs.Setups.{setup_of}
use Rattle.sys_run.specs.Scripts.{AsksWhatIs}
use Rattle.phases_out.specs.Given.{AskWhatIs, LineNamesSome, NameSome}

module _ (named : Named) (actors : List (List ℕ)) (queries : ℕ) where
  asks : (line : Line) → NamesWhatIs named actors queries line → AsksWhatIs queries line
  asks (lines.Take channel count) is = tt
  asks (lines.Push channel count) is = tt
  asks (lines.Apply actor number protocol op) is = tt
  asks (lines.Show actor query) is = is.1

  pub all_ask : (phases : List (List Line)) → All (All (NamesWhatIs named actors queries)) phases → AskWhatIs queries phases
  all_ask phases all =
      All-weaker (All (NamesWhatIs named actors queries)) (All (AsksWhatIs queries)) (All-weaker (NamesWhatIs named actors queries) (AsksWhatIs queries) asks) phases all

module _ (named : Named) (actors : List (List ℕ)) (setup : Setup) (as_many : length named.protocols ≡ length setup.protocols) where
  names : (line : Line) → NamesWhatIs named actors (length setup.queries) line → LineNamesSome (length actors) setup line
  names (lines.Take channel count) is = tt
  names (lines.Push channel count) is = tt
  names (lines.Apply actor number protocol op) is = (is.0, subst (λ (n : ℕ). protocol < n) as_many is.1)
  names (lines.Show actor query) is = is

  all_name : (phases : List (List Line)) → All (All (NamesWhatIs named actors (length setup.queries))) phases → NameSome setup (length actors) phases
  all_name phases all =
      All-weaker (All (NamesWhatIs named actors (length setup.queries))) (All (LineNamesSome (length actors) setup))
      (All-weaker (NamesWhatIs named actors (length setup.queries)) (LineNamesSome (length actors) setup) names) phases all

-- there are as many protocols as names
as_many_as : (ps : List NamedProtocol) (qs : List Protocol) → map (λ (p : NamedProtocol). p.name) ps ≡ map (λ (p : Protocol). p.name) qs → length ps ≡ length qs
as_many_as ps qs same = sym (length-map ps (λ (p : NamedProtocol). p.name)) ∙ ap (λ (l : List (List ℕ)). length l) same ∙ length-map qs (λ (p : Protocol). p.name)

module _ (named : Named) (actors : List (List ℕ)) (system : System) (cells : ℕ) (filters : List Filter) (queries : List Query) (phases : List (List Line)) where
  pub all_name_some : map (λ (p : NamedProtocol). p.name) named.protocols ≡ map (λ (p : Protocol). p.name) (setup_of system cells filters queries).protocols
      → All (All (NamesWhatIs named actors (length queries))) phases → NameSome (setup_of system cells filters queries) (length actors) phases
  unfolding setup_of
  all_name_some same all = all_name named actors (setup_of system cells filters queries) (as_many_as named.protocols (setup_of system cells filters queries).protocols same) phases all
