pub mod SenderBytes
pub mod ReceiverBytes
