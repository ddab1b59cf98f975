-- What HTTP_SEND and CANCELNAV make of a memory.
pub mod Sends
pub mod Cancels
