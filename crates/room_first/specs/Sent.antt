-- What the channel of a number lets pass (`sent_by`), with the sources that it passes where it is a
-- direction of a pipe. What a lent filter says (`lent_by`).
-- Not modelled: how the sources are found, which is `sources` of core_setup.
-- From: BIRD User's Guide, "Pipe"; own.
-- Example: a direction from the table of a protocol of BGP lets pass what its own filter does, of
-- this protocol alone.
use Rattle.std.specs.Prelude.{ℕ, false, [], Option, Some, None}
use Rattle.attrs.specs.declared.judge.Verdict.{Verdict}
use Rattle.attrs.specs.declared.judge.Verdict.TheVariants as verdicts
use Rattle.attrs.specs.declared.route.Route.{Route}
use Rattle.bits_ip.specs.Prefix.{Net}
use Rattle.bits_ip.specs.declared.address.Family.TheVariants.{V4}
use Rattle.core_setup.specs.Channels.{Channel, channel_at}
use Rattle.core_setup.specs.Protocols.{exports_of}
use Rattle.core_setup.specs.Setup.{Exports, Setup}
use Rattle.phase_answers.specs.declared.lent.Lent.{Lent}

-- what a lent filter says is what the lender's does
abbrev pub lent_by :
    {J : Type 0} → (J → Net → Route → Verdict) → Lent J → Net → Route → Verdict
lent_by verdict lent = verdict lent.judge.now

-- of a channel that isn't there nothing passes
abbrev pub nothing_sent : Exports
nothing_sent = record {
  spec = record {
    family = V4;
    own = 0;
    to_ebgp = false;
    interpret = false;
    every = false;
    sources = [];
  };
  filter = λ net route. verdicts.Reject None;
}

abbrev pub sent_in : Setup → ℕ → Option Channel → Exports
sent_in setup c None = nothing_sent
sent_in setup c (Some channel) = exports_of setup c channel

abbrev pub sent_by : Setup → ℕ → Exports
sent_by setup c = sent_in setup c (channel_at setup c)
