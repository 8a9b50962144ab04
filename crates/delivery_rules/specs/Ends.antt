-- A sender and a receiver, whatever they are made of: their calls, what these answer, and what they put on the lines between them.
use Rattle.std.specs.Prelude.{ℕ, Bool, List}
-- a segment's content is its channel, its bad mark and its bytes: segments are compared by it
use Rattle.retry_rules.specs.Lent.{Content}

-- what stands on the line to the receiver, and on the line back. What is damaged brings neither number nor bytes
pub data Item : Type 0 where
  segment : ℕ → Content → Item
  damaged : Item

pub data Reply : Type 0 where
  ack nack : ℕ → Reply
  damaged_reply : Reply

-- what each call answers, with the state that it leaves
pub record Making (A : Type 0) : Type 0 where
  pub refusal : ℕ
  pub state : A

pub record Offering (A : Type 0) : Type 0 where
  pub accepted : Bool
  pub state : A
  -- what the eight buffers hold now
  pub buffers : List ℕ

pub record Sending (A : Type 0) : Type 0 where
  -- something goes out: this number and this content
  pub sent : Bool
  pub number : ℕ
  pub content : Content
  pub state : A

pub record Arriving (A : Type 0) : Type 0 where
  -- not refused: a reply goes back
  pub answered : Bool
  pub reply : Reply
  -- something is delivered: this content
  pub delivered : Bool
  pub content : Content
  pub state : A

-- a sender and a receiver, whatever they are made of. The eight buffers and each output are lent bytes.
-- Nothing here tells what an end holds or counts: there is nothing to believe of it
pub record Ends : Type 1 where
  pub Sender : Type 0
  pub Receiver : Type 0
  -- a fresh sender of T and S, a fresh receiver of S
  pub make_sender : ℕ → ℕ → Making Sender
  pub make_receiver : ℕ → Making Receiver
  -- given the buffers and what is offered
  pub offer : Sender → List ℕ → Content → Offering Sender
  -- given the buffers and the output
  pub send : Sender → List ℕ → List ℕ → Sending Sender
  pub hear : Sender → Reply → Sender
  pub tick : Sender → Sender
  -- given what arrives, whether there is room, and the output
  pub arrive : Receiver → Item → Bool → List ℕ → Arriving Receiver
