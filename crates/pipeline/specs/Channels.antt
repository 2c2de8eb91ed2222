-- A channel, by what it lends. Assumes nothing.
use Rattle.std.specs.Prelude.{◌≡◌, ℕ, List}
use Rattle.pipeline.specs.declared.channel.Channel.{Channel}

-- a link, and what stands in the buffers for a request and for its response
pub record ChannelView (L : Type 0) : Type 0 where
  pub link : L
  pub request : List ℕ
  pub answer : List ℕ

abbrev pub channel_over : {L : Type 0} → L → List ℕ → List ℕ → ChannelView L
channel_over a request answer = record { link = a; request = request; answer = answer }

abbrev pub channel_view : {L : Type 0} → Channel L → ChannelView L
channel_view c = channel_over c.link.now c.request.now c.answer.now

-- it lends the same link and the same buffers, whatever they hold now
pub record SameLoans {L : Type 0} (c d : Channel L) : Type 0 where
  pub link : d.link.ghost_name ≡ c.link.ghost_name
  pub request : d.request.ghost_name ≡ c.request.ghost_name
  pub answer : d.answer.ghost_name ≡ c.answer.ghost_name
