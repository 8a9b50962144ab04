pub mod CharacterCalls
pub mod CaptureCalls
pub mod PacketCalls
pub mod SenderCalls
pub mod ReceiverCalls
pub mod EventCalls
