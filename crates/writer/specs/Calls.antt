-- What a call works on, and that a refused one leaves all of it. Assumes nothing.
use Rattle.std.specs.Prelude.{◌≡◌, List, ℕ, Some, None, Err, Option, Result}
use Rattle.pipeline.specs.declared.channel.Channel.{Channel}
use Rattle.pipeline.specs.Channels.{ChannelView, channel_view}
use Rattle.writer.specs.declared.refusal.Refusal.{Refusal}
use Rattle.writer.specs.declared.state.Writer.{Writer}
use Rattle.writer.specs.Views.{View, view_of}

-- write, beat and finish: the writer with its store, the frame buffer and the link
pub record Streamer (L : Type 0) : Type 0 where
  pub view : View
  pub store : List ℕ
  pub frame : List ℕ
  pub link : L

abbrev pub streamer_of : {L : Type 0} → Writer → List ℕ → List ℕ → L → Streamer L
streamer_of w store frame link =
    record { view = view_of w; store = store; frame = frame; link = link }

-- heed: the writer with the link and the answer buffer
pub record Listener (L : Type 0) : Type 0 where
  pub view : View
  pub link : L
  pub answer : List ℕ

abbrev pub listener_of : {L : Type 0} → Writer → L → List ℕ → Listener L
listener_of w link answer = record { view = view_of w; link = link; answer = answer }

-- recover: the writer with its store, all its buffers, the link and the namenode
pub record Site (L N : Type 0) : Type 0 where
  pub view : View
  pub store : List ℕ
  pub frame : List ℕ
  pub channel : ChannelView L
  pub namenode : N

abbrev pub site_of : {L N : Type 0} → Writer → List ℕ → List ℕ → ChannelView L → N → Site L N
site_of w store frame channel namenode =
    record {
      view = view_of w;
      store = store;
      frame = frame;
      channel = channel;
      namenode = namenode;
    }

abbrev pub site_at : {L N : Type 0} → Writer → List ℕ → List ℕ → Channel L → N → Site L N
site_at w store frame channel namenode = site_of w store frame (channel_view channel) namenode

-- a refused call answers why and leaves what it works on; any other acts
abbrev pub UnlessRefused : {S A : Type 0} → Option Refusal → (S → Result A Refusal → S → Type 0)
    → S → Result A Refusal → S → Type 0
UnlessRefused (Some why) Acts s r t = (r ≡ Err why) × (t ≡ s)
UnlessRefused None Acts s r t = Acts s r t
